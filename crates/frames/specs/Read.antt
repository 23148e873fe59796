-- Frames read: from the bytes of a text to a deck or a claim, or to one refusal, in the order of RULES 7.4. The forms are those of RULES 6.
use Rattle.std.specs.Prelude.{Bool, true, false, not, ◌||◌, List, [], ◌∷◌, ◌++◌, ℕ, zero, suc, ◌+◌, ◌-◌, ◌/◌, ◌%◌, ltb, eqb, length, drop, get_or}
use Rattle.std.proofs.Math.Option.{none, some}
use Rattle.lists.specs.Lists.{stands, ended, unended}
use Rattle.sets.specs.Sets.{has, inside}
use Rattle.logic.specs.Expressions.{Op1, Op2, Expr, Const, Var, One, Two, Not, Next, Future, Always, And, Or, Until, Weak, nodes, written, temporal}
use Rattle.logic.specs.Decks.{Equation, Deck, base, total_nodes}
use Rattle.logic.specs.Meaning.{Claim}
use Rattle.decks.specs.declared.Refusal.TheVariants.{TooLong, Outside, Temporal, TooDeep, ManyInitials, ManyEquations, ManyNodes, BadFrame}
use Rattle.decks.specs.Answers.{Outcome, Got, Refused, refuse, afterwards}
use Rattle.decks.specs.Readings.{Reading, Whole, Wrong, Deep, onward, walk, complete}
use Rattle.frames.specs.Hex.{byte_of, number}
use Rattle.frames.specs.Written.{set_bytes, set_kind, init_kind, equation_kind, property_kind, count_kind, claim_kind, state_kind, claim_count_kind}

-- ---- expressions

-- What a code begins.
pub data Sign : Type 0 where
  Leaf : Expr → Sign
  Before : Op1 → Sign
  Between : Op2 → Sign
  NoSign : Sign

-- The signs of the codes from 40 on, in their order.
abbrev pub signs : List Sign
signs =
    Leaf (Const false) ∷ Leaf (Const true) ∷ Before Not ∷ Between And ∷ Between Or ∷ Before Next ∷ Before Future ∷ Before Always ∷ Between Until ∷ Between Weak ∷ []

-- 00 to 3F variables, 40 `0`, 41 `1`, 42 `~`, 43 `&`, 44 `+`, 45 `X`, 46 `F`, 47 `G`, 48 `U`, 49 `W`.
unfoldable pub sign_of : ℕ → Sign
sign_of n = elim (ltb n 64) [ true ↦ Leaf (Var n) | false ↦ get_or signs (n - 64) NoSign ]

-- The sign that stands first and the pairs behind it: none where no pair stands there.
abbrev pub signed : {A : Type 0} → List ℕ → (Sign → List ℕ → A) → A
signed [] f = f NoSign []
signed (h ∷ []) f = f NoSign []
signed (h ∷ l ∷ cs) f = f (sign_of (byte_of h l)) cs

-- At level 33: any code that begins an expression is too deep.
abbrev pub levelled : List ℕ → Sign → List ℕ → Reading
levelled all (Leaf e) cs = Deep all
levelled all (Before o) cs = Deep all
levelled all (Between o) cs = Deep all
levelled all NoSign cs = Wrong all

-- An expression from its sign on, with the reading of an operand.
abbrev pub begins : (List ℕ → Reading) → List ℕ → Sign → List ℕ → Reading
begins operand all (Leaf e) cs = Whole e cs
begins operand all (Before o) cs = onward (operand cs) (λ a rest. Whole (One o a) rest)
begins operand all (Between o) cs = onward (operand cs) (λ a rest. onward (operand rest) (λ b last. Whole (Two o a b) last))
begins operand all NoSign cs = Wrong all

-- The expression whose pairs stand first, with as many levels left as given.
unfoldable pub read_expr : ℕ → List ℕ → Reading
read_expr zero cs = signed cs (levelled cs)
read_expr (suc left) cs = signed cs (begins (read_expr left) cs)

-- The expression that fills the rest of line n, or 16 or 11, whichever is met first.
unfoldable pub whole_expr : ℕ → List ℕ → Outcome Expr
whole_expr n cs = elim (read_expr base.levels cs) [ Whole e [] ↦ Got e | Whole e (r ∷ rs) ↦ Refused (BadFrame 1 n) | Wrong rs ↦ Refused (BadFrame 1 n) | Deep rs ↦ Refused (TooDeep n) ]

-- ---- lines

-- The number of exactly k pairs, or 16 at line n of text t.
unfoldable pub whole_number : ℕ → ℕ → ℕ → List ℕ → Outcome ℕ
whole_number t n k cs = elim (number k cs) [ none ↦ Refused (BadFrame t n) | some x ↦ Got x ]

-- A line's kind: the byte of its first pair, 256 where there is none. What follows is its content.
unfoldable pub kind_of : List ℕ → ℕ
kind_of [] = 256
kind_of (h ∷ []) = 256
kind_of (h ∷ l ∷ cs) = byte_of h l

-- ---- decks

-- Which frames are due.
pub data Due : Type 0 where
  DueSet DueInit DueAny DueEquation DueCount DueNone : Due

-- What the lines so far came to. The property is there from 04 on.
pub record Sofar : Type 0 where
  pub due : Due
  pub deck : Deck

abbrev pub begun : Sofar
begun = record { due = DueSet; deck = record { vars = 0; inits = []; equations = []; property = Const false } }

-- 01: the variable set.
unfoldable pub set_line : ℕ → List ℕ → Deck → Outcome Sofar
set_line n cs d =
    afterwards (whole_number 1 n set_bytes cs)
    (λ v. Got (record { due = DueInit; deck = record { vars = v; inits = []; equations = []; property = d.property } }))

-- 02: an initial state. Equal 02s are 16; then 9, then 12.
unfoldable pub init_line : ℕ → List ℕ → Deck → Outcome Sofar
init_line n cs d =
    afterwards (whole_number 1 n set_bytes cs)
    (λ s.
    refuse (stands s d.inits) (BadFrame 1 n)
    (refuse (not (inside s d.vars)) (Outside 1 n)
    (refuse (ltb base.initials (length d.inits + 1)) (ManyInitials n)
    (Got (record { due = DueAny; deck = record { vars = d.vars; inits = d.inits ++ (s ∷ []); equations = d.equations; property = d.property } })))))

-- The highest left side so far; equations stand by rising variable.
unfoldable pub last_left : List Equation → ℕ
last_left [] = 0
last_left (q ∷ []) = q.left
last_left (q ∷ r ∷ qs) = last_left (r ∷ qs)

-- The deck with one more equation, after 9, 10, 13 and 14.
unfoldable pub with_equation : ℕ → Deck → Equation → Outcome Sofar
with_equation n d q =
    refuse (not (has d.vars q.left)) (Outside 1 n)
    (refuse (not (inside (written q.right) d.vars)) (Outside 1 n)
    (refuse (temporal q.right) (Temporal n)
    (refuse (ltb base.equations (length d.equations + 1)) (ManyEquations n)
    (refuse (ltb base.equation_nodes (total_nodes d.equations + nodes q.right)) (ManyNodes n)
    (Got (record { due = DueEquation; deck = record { vars = d.vars; inits = d.inits; equations = d.equations ++ (q ∷ []); property = d.property } }))))))

-- 03: variable number 00 to 3F, not below the one before it, then its expression.
unfoldable pub equation_line : ℕ → List ℕ → Deck → Outcome Sofar
equation_line n [] d = Refused (BadFrame 1 n)
equation_line n (h ∷ []) d = Refused (BadFrame 1 n)
equation_line n (h ∷ l ∷ cs) d =
    refuse (not (ltb (byte_of h l) base.variables)) (BadFrame 1 n)
    (refuse (ltb (byte_of h l) (last_left d.equations)) (BadFrame 1 n)
    (afterwards (whole_expr n cs) (λ e. with_equation n d (record { left = byte_of h l; right = e }))))

-- 04: the property; 9, then 14.
unfoldable pub property_line : ℕ → List ℕ → Deck → Outcome Sofar
property_line n cs d =
    afterwards (whole_expr n cs)
    (λ e.
    refuse (not (inside (written e) d.vars)) (Outside 1 n)
    (refuse (ltb base.property_nodes (nodes e)) (ManyNodes n)
    (Got (record { due = DueCount; deck = record { vars = d.vars; inits = d.inits; equations = d.equations; property = e } }))))

-- 05 and 15: the number of frames before it, two bytes. Line n has n - 1 of them before it.
unfoldable pub count_line : {S : Type 0} → ℕ → ℕ → List ℕ → S → Outcome S
count_line t n cs s = afterwards (whole_number t n 2 cs) (λ x. refuse (not (eqb (x + 1) n)) (BadFrame t n) (Got s))

-- The kinds that may stand where a frame is due.
abbrev pub permits : Due → ℕ → Bool
permits DueSet k = eqb k set_kind
permits DueInit k = eqb k init_kind
permits DueAny k = eqb k init_kind || (eqb k equation_kind || eqb k property_kind)
permits DueEquation k = eqb k equation_kind || eqb k property_kind
permits DueCount k = eqb k count_kind
permits DueNone k = false

-- A frame of kind k with its content.
unfoldable pub frame_line : ℕ → ℕ → List ℕ → Deck → Outcome Sofar
frame_line k n cs d =
    elim (eqb k set_kind) [
      | true ↦ set_line n cs d
      | false ↦
          elim (eqb k init_kind) [
            | true ↦ init_line n cs d
            | false ↦
                elim (eqb k equation_kind) [
                  | true ↦ equation_line n cs d
                  | false ↦ elim (eqb k property_kind) [ true ↦ property_line n cs d | false ↦ count_line 1 n cs (record { due = DueNone; deck = d }) ]
                ]
          ]
    ]

-- Line n of a deck: 16 where its kind is not due.
unfoldable pub deck_line : ℕ → List ℕ → Sofar → Outcome Sofar
deck_line n l s = refuse (not (permits s.due (kind_of l))) (BadFrame 1 n) (frame_line (kind_of l) n (drop 2 l) s.deck)

-- Behind the last line: 16 at place 0 where the text ends early, within a line or before 05; then 15.
unfoldable pub deck_end : List ℕ → Sofar → Outcome Deck
deck_end [] s = elim s.due [ DueSet ↦ early | DueInit ↦ early | DueAny ↦ early | DueEquation ↦ early | DueCount ↦ early | DueNone ↦ complete s.deck ]
  where
    early : Outcome Deck
    early = Refused (BadFrame 1 0)
deck_end (c ∷ cs) s = Refused (BadFrame 1 0)

-- A text read as a deck.
unfoldable pub read_deck : List ℕ → Outcome Deck
read_deck text = refuse (ltb base.text (length text)) (TooLong 1) (afterwards (walk deck_line 1 (ended text) begun) (λ s. deck_end (unended text) s))

-- ---- claims

-- What the lines of a claim so far came to: nothing; p, c and the states so far; the whole with its 15.
pub data ClaimSofar : Type 0 where
  ClaimDue : ClaimSofar
  StatesDue : Claim → ClaimSofar
  ClaimWhole : Claim → ClaimSofar

-- 11: p, then c, two bytes each; c is at least 1 and p+c at most 1,024.
unfoldable pub sizes_line : ℕ → List ℕ → Outcome ClaimSofar
sizes_line n cs =
    afterwards (whole_number 2 n 4 cs)
    (λ x.
    refuse (eqb (x % 65536) 0) (BadFrame 2 n)
    (refuse (ltb base.states (x / 65536 + x % 65536)) (BadFrame 2 n) (Got (StatesDue (record { p = x / 65536; c = x % 65536; states = [] })))))

-- 12: a state; one with a bit outside the deck's set is 9.
unfoldable pub state_line : ℕ → ℕ → List ℕ → Claim → Outcome ClaimSofar
state_line vars n cs m =
    afterwards (whole_number 2 n set_bytes cs)
    (λ s. refuse (not (inside s vars)) (Outside 2 n) (Got (StatesDue (record { p = m.p; c = m.c; states = m.states ++ (s ∷ []) }))))

-- Line n of a claim on a deck with the variables given: 16 where its kind is not due.
unfoldable pub claim_line : ℕ → ℕ → List ℕ → ClaimSofar → Outcome ClaimSofar
claim_line vars n l ClaimDue = refuse (not (eqb (kind_of l) claim_kind)) (BadFrame 2 n) (sizes_line n (drop 2 l))
claim_line vars n l (StatesDue m) =
    elim (ltb (length m.states) (m.p + m.c)) [
      | true ↦ refuse (not (eqb (kind_of l) state_kind)) (BadFrame 2 n) (state_line vars n (drop 2 l) m)
      | false ↦ refuse (not (eqb (kind_of l) claim_count_kind)) (BadFrame 2 n) (count_line 2 n (drop 2 l) (ClaimWhole m))
    ]
claim_line vars n l (ClaimWhole m) = Refused (BadFrame 2 n)

-- Behind the last line: 16 at place 0 where the text ends early, within a line or before 15.
unfoldable pub claim_end : List ℕ → ClaimSofar → Outcome Claim
claim_end [] ClaimDue = Refused (BadFrame 2 0)
claim_end [] (StatesDue m) = Refused (BadFrame 2 0)
claim_end [] (ClaimWhole m) = Got m
claim_end (c ∷ cs) s = Refused (BadFrame 2 0)

-- A text read as a claim on a deck with the variables given.
unfoldable pub read_claim : ℕ → List ℕ → Outcome Claim
read_claim vars text =
    refuse (ltb base.text (length text)) (TooLong 2) (afterwards (walk (claim_line vars) 1 (ended text) ClaimDue) (λ s. claim_end (unended text) s))
