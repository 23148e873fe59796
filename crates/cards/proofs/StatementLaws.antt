-- Laws of the walk over statements: it comes to a result exactly where the statements are the spelling of what was typed, within the limits.
use mathlib.Core.Path.{◌≡◌, refl, sym, ap, ap₂, ◌∙◌, subst}
use mathlib.Core.Logic.{◌⊎◌, inl, inr}
use mathlib.Core.Bool.{false}
use mathlib.Core.List.{List, [], ◌∷◌, ◌++◌, map, map-append, append_assoc, append-nil, nil≢cons, head-eq_of_cons-eq, tail-eq_of_cons-eq}
use mathlib.Core.Option.{Option, none, some}
use Prim.Native.Nat.{ℕ, suc, ◌+◌, ◌^◌, ◌<◌, ◌≤◌}
use native.Mathlib.Omega.{arith}
use borrow.Author.Tests.{le-ltb, ltb-false}
use lib.Dec.{ltb}
use lib.ListN.{length, length-append}
use Rattle.lists.specs.Lists.{Each, ◌among◌}
use Rattle.lists.specs.Texts.{bytes}
use Rattle.lists.proofs.Laws.{each_at, each_append, among_right}
use Rattle.sets.specs.Sets.{◌⊆◌, has, inside}
use Rattle.sets.proofs.Laws.{has_true, true_has, inside_true, true_inside}
use Rattle.logic.specs.Expressions.{Expr, Const, nodes, levels, written, temporal, decimal, spelling, Below}
use Rattle.logic.specs.Decks.{Equation, Allowed, base, total_nodes}
use Rattle.logic.proofs.Codes.{below_more, written_below}
use Rattle.logic.proofs.Spelling.{NoDigit}
use Rattle.decks.specs.declared.Refusal.TheVariants.{NotDue, ManyInitials}
use Rattle.decks.specs.Answers.{Outcome, Got, Refused, refuse, afterwards}
use Rattle.decks.specs.Readings.{walk}
use Rattle.cards.specs.Statement.{Statement, inked}
use Rattle.cards.specs.Grammar.{Counted, Number, NoNumber, read_number}
use Rattle.cards.specs.Typed.{Typed, binary_from, init_spelt, equation_spelt, spelt, first_vars, Fits}
use Rattle.cards.specs.Read.{behind, Due, DueVars, DueInit, DueAny, DueEquation, DueEnd, DueNone, Sofar, begun, whole_expr, whole_number, vars_statement, read_binary, init_statement, with_equation, equation_statement, prop_statement, end_statement, equation_or_prop, due_statement, statement_read}
use Rattle.decks.proofs.Outcomes.{Given, refuse_given, refuse_not_given, got_given, afterwards_given, walk_got, walk_keeps}
use Rattle.cards.proofs.GrammarLaws.{decimal_read, read_decimal}
use Rattle.cards.proofs.WordLaws.{behind_word, word_behind, on_word_lem, on_other, word_given, whole-number-spelt, whole-number_got, whole_expr_spelt, whole_expr_got, binary_read, read_binary_lem}
use Rattle.cards.proofs.TypedLaws.{member_first-vars, first-vars-most, below_subset, subset_below}
use Rattle.logic.proofs.Rights.{plain-temporal, temporal-plain, total_append}

-- ---- the texts of the statements

-- The statement's characters that are no blanks.
abbrev pub text_of : Statement → List ℕ
text_of s = inked s.field

abbrev pub sofar : Due → Typed → Sofar
sofar u t = record { due = u; typed = t }

abbrev vars_spelt : ℕ → List ℕ
vars_spelt n = bytes "VARS" ++ decimal n

abbrev prop_spelt : Expr → List ℕ
prop_spelt e = bytes "PROP" ++ spelling e

-- `VARS`, the `INIT`s and the equations.
abbrev head_spelt : Typed → List (List ℕ)
head_spelt t = vars_spelt t.count ∷ (map (init_spelt t.count) t.inits ++ map equation_spelt t.equations)

head-spelt : (t : Typed) → head_spelt t ++ (prop_spelt t.property ∷ bytes "END" ∷ []) ≡ spelt t
unfolding spelt
head-spelt t = ap (λ (ls : List (List ℕ)). vars_spelt t.count ∷ ls) (append_assoc (map (init_spelt t.count) t.inits) (map equation_spelt t.equations) _)

-- ---- read, then spelt

-- What holds of what was typed from `VARS` on.
pub record Begun (t : Typed) : Type 0 where
  pub vars-most : t.count ≤ base.variables
  pub inits-most : length t.inits ≤ base.initials
  pub inits_in : Each (λ (s : ℕ). s < 2 ^ t.count) t.inits
  pub equations-most : length t.equations ≤ base.equations
  pub equations-nodes : total_nodes t.equations ≤ base.equation_nodes
  pub equations-allowed : Each (Allowed base (first_vars t.count)) t.equations

-- What holds of it from `PROP` on: all that `Fits` asks but an equation for every variable.
pub record Stated (t : Typed) : Type 0 where
  pub begins : Begun t
  pub inits-some : 1 ≤ length t.inits
  pub property_in : written t.property < 2 ^ t.count
  pub property-nodes : nodes t.property ≤ base.property_nodes
  pub property-levels : levels t.property ≤ base.levels

abbrev Known : Due → Typed → Type 0
Known DueVars t = t ≡ begun.typed
Known DueInit t = Begun t × (t.equations ≡ [])
Known DueAny t = Begun t × (t.equations ≡ []) × (1 ≤ length t.inits)
Known DueEquation t = Begun t × (1 ≤ length t.inits)
Known DueEnd t = Stated t
Known DueNone t = Stated t

-- How the statements so far are spelt.
abbrev spelt_sofar : Due → Typed → List (List ℕ)
spelt_sofar DueVars t = []
spelt_sofar DueInit t = head_spelt t
spelt_sofar DueAny t = head_spelt t
spelt_sofar DueEquation t = head_spelt t
spelt_sofar DueEnd t = head_spelt t ++ (prop_spelt t.property ∷ [])
spelt_sofar DueNone t = spelt t

-- The statements so far are the spelling of what was typed so far, and that keeps the rules so far.
abbrev Kept : List (List ℕ) → Sofar → Type 0
Kept past s = (past ≡ spelt_sofar s.due s.typed) × Known s.due s.typed

-- One text more behind those so far.
one_more : (past texts : List (List ℕ)) (l content : List ℕ) → past ≡ texts → l ≡ content → past ++ l ∷ [] ≡ texts ++ (content ∷ [])
one_more past texts l content e f = ap₂ (λ (ls : List (List ℕ)) (m : List ℕ). ls ++ m ∷ []) e f

vars_kept : (n : ℕ) (l cs : List ℕ) → l ≡ bytes "VARS" ++ cs → Given (Kept (l ∷ [])) (vars_statement n cs begun.typed)
unfolding vars_statement total_nodes
vars_kept n l cs e =
    afterwards_given (Kept (l ∷ [])) (whole_number n base.variables cs) _ (λ v h.
    let w = whole-number_got n base.variables cs v h in (
      ap (λ (m : List ℕ). m ∷ []) (e ∙ ap (λ (m : List ℕ). bytes "VARS" ++ m) w.0),
      (
        record { vars-most = w.1; inits-most = omega arith; inits_in = tt; equations-most = omega arith; equations-nodes = omega arith; equations-allowed = tt },
        refl,
      ),
    ))

-- The spelling with one initial state more, where there is no equation yet.
init_spelt_lem : (n : ℕ) (ss : List ℕ) (s : ℕ) (qs : List Equation) → qs ≡ [] → map (init_spelt n) (ss ++ s ∷ []) ++ map equation_spelt qs ≡ (map (init_spelt n) ss ++ map equation_spelt qs) ++ (init_spelt n s ∷ [])
init_spelt_lem n ss s qs e =
    rw e (append-nil (map (init_spelt n) (ss ++ s ∷ [])) ∙ map-append (init_spelt n) ss (s ∷ []) ∙ ap (λ (ls : List (List ℕ)). ls ++ (init_spelt n s ∷ [])) (sym (append-nil (map (init_spelt n) ss))))

init_kept : (past : List (List ℕ)) (n : ℕ) (l cs : List ℕ) (t : Typed) → l ≡ bytes "INIT" ++ cs → past ≡ head_spelt t → Begun t → t.equations ≡ [] → Given (Kept (past ++ l ∷ [])) (init_statement n cs t)
unfolding init_statement
init_kept past n l cs t e h b z = go (read_binary 0 t.count 0 cs) refl
  where
    go : (r : Option ℕ) → read_binary 0 t.count 0 cs ≡ r → Given (Kept (past ++ l ∷ [])) (elim r [
      | none ↦ Refused (NotDue n)
      | some s ↦
          refuse (ltb base.initials (length t.inits + 1)) (ManyInitials n)
          (Got (sofar DueAny (record { count = t.count; inits = t.inits ++ (s ∷ []); equations = t.equations; property = t.property })))
    ])
    go none p = tt
    go (some s) p =
        let w = read_binary_lem t.count cs s p in
        refuse_given (Kept (past ++ l ∷ [])) (ltb base.initials (length t.inits + 1)) _ _ (λ most. (
          one_more past (head_spelt t) l (init_spelt t.count s) h (e ∙ ap (λ (m : List ℕ). bytes "INIT" ++ m) w.0)
              ∙ ap (λ (ls : List (List ℕ)). vars_spelt t.count ∷ ls) (sym (init_spelt_lem t.count t.inits s t.equations z)),
          (
            record {
              vars-most = b.vars-most;
              inits-most = omega (arith, ltb-false base.initials (length t.inits + 1) most, length-append t.inits (s ∷ []));
              inits_in = each_append (λ (x : ℕ). x < 2 ^ t.count) t.inits (s ∷ []) b.inits_in (w.1, tt);
              equations-most = b.equations-most;
              equations-nodes = b.equations-nodes;
              equations-allowed = b.equations-allowed;
            },
            z,
            omega (arith, length-append t.inits (s ∷ [])),
          ),
        ))

-- The spelling with one equation more.
equation_spelt_lem : (n : ℕ) (ss : List ℕ) (qs : List Equation) (q : Equation) → map (init_spelt n) ss ++ map equation_spelt (qs ++ q ∷ []) ≡ (map (init_spelt n) ss ++ map equation_spelt qs) ++ (equation_spelt q ∷ [])
equation_spelt_lem n ss qs q =
    ap (λ (ls : List (List ℕ)). map (init_spelt n) ss ++ ls) (map-append equation_spelt qs (q ∷ []))
    ∙ sym (append_assoc (map (init_spelt n) ss) (map equation_spelt qs) (equation_spelt q ∷ []))

with_equation_kept : (past : List (List ℕ)) (n : ℕ) (l : List ℕ) (t : Typed) (q : Equation) → l ≡ equation_spelt q → past ≡ head_spelt t → Begun t → 1 ≤ length t.inits → levels q.right ≤ base.levels → Given (Kept (past ++ l ∷ [])) (with_equation n t q)
unfolding with_equation total_nodes
with_equation_kept past n l t q e h b i shallow =
    let K : Sofar → Type 0 = Kept (past ++ l ∷ []) in
    refuse_not_given K (has (first_vars t.count) q.left) _ _ (λ its.
    refuse_not_given K (inside (written q.right) (first_vars t.count)) _ _ (λ uses.
    refuse_given K (temporal q.right) _ _ (λ plain.
    refuse_given K (ltb base.equations (length t.equations + 1)) _ _ (λ most.
    refuse_given K (ltb base.equation_nodes (total_nodes t.equations + nodes q.right)) _ _ (λ sum. (
      one_more past (head_spelt t) l (equation_spelt q) h e
          ∙ ap (λ (ls : List (List ℕ)). vars_spelt t.count ∷ ls) (sym (equation_spelt_lem t.count t.inits t.equations q)),
      (
        record {
          vars-most = b.vars-most;
          inits-most = b.inits-most;
          inits_in = b.inits_in;
          equations-most = omega (arith, ltb-false base.equations (length t.equations + 1) most, length-append t.equations (q ∷ []));
          equations-nodes = omega (arith, ltb-false base.equation_nodes (total_nodes t.equations + nodes q.right) sum, total_append t.equations (q ∷ []));
          equations-allowed =
              each_append (Allowed base (first_vars t.count)) t.equations (q ∷ []) b.equations-allowed (
                record {
                  its = true_has (first_vars t.count) q.left its;
                  uses = true_inside (written q.right) (first_vars t.count) uses;
                  plain = temporal-plain q.right plain;
                  shallow = shallow;
                },
                tt,
              );
        },
        i,
      ),
    ))))))

equation_kept : (past : List (List ℕ)) (n : ℕ) (l cs : List ℕ) (t : Typed) → l ≡ bytes "V" ++ cs → past ≡ head_spelt t → Begun t → 1 ≤ length t.inits → Given (Kept (past ++ l ∷ [])) (equation_statement n cs t)
unfolding equation_statement
equation_kept past n l cs t e h b i = number (read_number cs) refl
  where
    joined : (v : ℕ) (rs : List ℕ) → cs ≡ decimal v ++ rs → (r : Option (List ℕ)) → behind (bytes "=") rs ≡ r → Given (Kept (past ++ l ∷ [])) (elim r [
      | none ↦ Refused (NotDue n)
      | some es ↦ afterwards (whole_expr n es) (λ x. with_equation n t (record { left = v; right = x }))
    ])
    joined v rs p none q = tt
    joined v rs p (some es) q =
        afterwards_given (Kept (past ++ l ∷ [])) (whole_expr n es) _ (λ x w.
        let whole = whole_expr_got n es x w in
        with_equation_kept
        past
        n
        l
        t
        (record { left = v; right = x })
        (e ∙ ap (λ (m : List ℕ). bytes "V" ++ m) (p ∙ ap (λ (m : List ℕ). decimal v ++ m) (behind_word (bytes "=") rs es q ∙ ap (λ (m : List ℕ). bytes "=" ++ m) whole.0)))
        h
        b
        i
        whole.1)

    number : (r : Counted) → read_number cs ≡ r → Given (Kept (past ++ l ∷ [])) (elim r [
      | NoNumber rs ↦ Refused (NotDue n)
      | Number v rs ↦
          elim (behind (bytes "=") rs) [
            | none ↦ Refused (NotDue n)
            | some es ↦ afterwards (whole_expr n es) (λ x. with_equation n t (record { left = v; right = x }))
          ]
    ])
    number (NoNumber rs) p = tt
    number (Number v rs) p = joined v rs (read_decimal cs v rs p).0 (behind (bytes "=") rs) refl

prop_kept : (past : List (List ℕ)) (n : ℕ) (l cs : List ℕ) (t : Typed) → l ≡ bytes "PROP" ++ cs → past ≡ head_spelt t → Begun t → 1 ≤ length t.inits → Given (Kept (past ++ l ∷ [])) (prop_statement n cs t)
unfolding prop_statement
prop_kept past n l cs t e h b i =
    let K : Sofar → Type 0 = Kept (past ++ l ∷ []) in
    afterwards_given K (whole_expr n cs) _ (λ x w.
    refuse_not_given K (inside (written x) (first_vars t.count)) _ _ (λ within.
    refuse_given K (ltb base.property_nodes (nodes x)) _ _ (λ most.
    let whole = whole_expr_got n cs x w in (
      one_more past (head_spelt t) l (prop_spelt x) h (e ∙ ap (λ (m : List ℕ). bytes "PROP" ++ m) whole.0),
      record {
        begins =
            record {
              vars-most = b.vars-most;
              inits-most = b.inits-most;
              inits_in = b.inits_in;
              equations-most = b.equations-most;
              equations-nodes = b.equations-nodes;
              equations-allowed = b.equations-allowed;
            };
        inits-some = i;
        property_in = subset_below t.count (written x) (true_inside (written x) (first_vars t.count) within);
        property-nodes = ltb-false base.property_nodes (nodes x) most;
        property-levels = whole.1;
      },
    ))))

end_kept : (past : List (List ℕ)) (n : ℕ) (l cs : List ℕ) (t : Typed) → l ≡ bytes "END" ++ cs → past ≡ head_spelt t ++ (prop_spelt t.property ∷ []) → Stated t → Given (Kept (past ++ l ∷ [])) (end_statement n cs t)
unfolding end_statement
end_kept past n l [] t e h s = (
  one_more past (head_spelt t ++ (prop_spelt t.property ∷ [])) l (bytes "END") h (e ∙ append-nil (bytes "END"))
      ∙ append_assoc (head_spelt t) (prop_spelt t.property ∷ []) (bytes "END" ∷ [])
      ∙ head-spelt t,
  s,
)
end_kept past n l (c ∷ cs) t e h s = tt

module _ (past : List (List ℕ)) (n : ℕ) (l : List ℕ) where
  abbrev kept : Outcome Sofar → Type 0
  kept = Given (Kept (past ++ l ∷ []))

  equation_or_prop_kept : (t : Typed) → past ≡ head_spelt t → Begun t → 1 ≤ length t.inits → kept (equation_or_prop n l t)
  unfolding equation_or_prop
  equation_or_prop_kept t h b i =
      word_given (Kept (past ++ l ∷ [])) (bytes "V") l _ _ (λ rs e. equation_kept past n l rs t e h b i)
      (word_given (Kept (past ++ l ∷ [])) (bytes "PROP") l _ _ (λ rs e. prop_kept past n l rs t e h b i) tt)

  -- Every statement keeps what the statements before it kept.
  statement_kept : (u : Due) (t : Typed) → Kept past (sofar u t) → kept (due_statement u n l t)
  unfolding due_statement
  statement_kept DueVars t k =
      word_given (Kept (past ++ l ∷ [])) (bytes "VARS") l _ _ (λ rs e. rw (k.0, k.1) (vars_kept n l rs e)) tt
  statement_kept DueInit t k = word_given (Kept (past ++ l ∷ [])) (bytes "INIT") l _ _ (λ rs e. init_kept past n l rs t e k.0 k.1.0 k.1.1) tt
  statement_kept DueAny t k =
      word_given (Kept (past ++ l ∷ [])) (bytes "INIT") l _ _ (λ rs e. init_kept past n l rs t e k.0 k.1.0 k.1.1)
      (equation_or_prop_kept t k.0 k.1.0 k.1.2)
  statement_kept DueEquation t k = equation_or_prop_kept t k.0 k.1.0 k.1.1
  statement_kept DueEnd t k = word_given (Kept (past ++ l ∷ [])) (bytes "END") l _ _ (λ rs e. end_kept past n l rs t e k.0 k.1) tt
  statement_kept DueNone t k = tt

read_kept : (past : List Statement) (n : ℕ) (s : Statement) (so : Sofar) → Kept (map text_of past) so → Given (Kept (map text_of (past ++ s ∷ []))) (statement_read n s so)
unfolding statement_read
read_kept past n s so k = rw (map-append text_of past (s ∷ [])) (statement_kept (map text_of past) s.card (text_of s) so.due so.typed k)

-- Statements that are read to the end are the spelling of what was typed, and that keeps the limits; 15 is judged behind them.
pub walk-spelt : (n : ℕ) (ss : List Statement) (so : Sofar) → walk statement_read n ss begun ≡ Got so → so.due ≡ DueNone → (map text_of ss ≡ spelt so.typed) × Stated so.typed
walk-spelt n ss so e d =
    let first : n + 0 ≡ n = omega arith in
    let kept = walk_keeps statement_read n (λ past s. Kept (map text_of past) s) (λ past. read_kept past (n + length past)) ss [] begun (refl, refl) in
    subst (λ (u : Due). Kept (map text_of ss) (sofar u so.typed)) d (got_given (Kept (map text_of ss)) (walk statement_read n ss begun) so (rw first at kept) e)

-- ---- spelt, then read

-- Statements with these texts are read from the one to the other.
abbrev Reads : List (List ℕ) → Sofar → Sofar → Type 0
Reads ls s u = (n : ℕ) (ss : List Statement) → map text_of ss ≡ ls → walk statement_read n ss s ≡ Got u

reads_none : (s : Sofar) → Reads [] s s
unfolding walk
reads_none s n [] e = refl
reads_none s n (x ∷ xs) e = absurd (nil≢cons (sym e))

reads_next : (l : List ℕ) (ls : List (List ℕ)) (s t u : Sofar) → ((n : ℕ) → due_statement s.due n l s.typed ≡ Got t) → Reads ls t u → Reads (l ∷ ls) s u
unfolding statement_read
reads_next l ls s t u f r n [] e = absurd (nil≢cons e)
reads_next l ls s t u f r n (x ∷ xs) e =
    walk_got statement_read n x xs s t (ap (λ (m : List ℕ). due_statement s.due x.card m s.typed) (head-eq_of_cons-eq e) ∙ f x.card)
    ∙ r (suc n) xs (tail-eq_of_cons-eq e)

equals_no_digit : (cs : List ℕ) → NoDigit (bytes "=" ++ cs)
unfolding bytes
equals_no_digit cs = λ d. omega arith

module _ (t : Typed) (ok : Fits base t) where
  -- What was typed, with some of its initial states and equations, before its property.
  abbrev partly : List ℕ → List Equation → Typed
  partly ss qs = record { count = t.count; inits = ss; equations = qs; property = Const false }

  vars_below : first_vars t.count < 2 ^ 64
  vars_below = first-vars-most t.count 64 ok.vars-most

  uses_below : (e : Expr) → written e ⊆ first_vars t.count → Below 100 e
  uses_below e h = below_more 64 100 e (omega arith) (written_below 64 (first_vars t.count) e vars_below h)

  vars_read : (n : ℕ) → due_statement DueVars n (vars_spelt t.count) begun.typed ≡ Got (sofar DueInit (partly [] []))
  unfolding due_statement vars_statement
  vars_read n = on_word_lem (bytes "VARS") (decimal t.count) _ _ ∙ simp (whole-number-spelt n base.variables t.count ok.vars-most (omega arith))

  init_read : (n : ℕ) (past : List ℕ) (s : ℕ) (rest : List ℕ) → past ++ s ∷ rest ≡ t.inits → init_statement n (binary_from 0 t.count s) (partly past []) ≡ Got (sofar DueAny (partly (past ++ s ∷ []) []))
  unfolding init_statement
  init_read n past s rest e =
      let within : s < 2 ^ t.count = each_at (λ (x : ℕ). x < 2 ^ t.count) t.inits s ok.inits_in (subst (λ (l : List ℕ). s among l) e (among_right past (s ∷ rest) s (inl refl))) in
      let most : length past + 1 ≤ base.initials = omega (arith, ap length e, length-append past (s ∷ rest), ok.inits-most) in
      simp (binary_read t.count s within, le-ltb base.initials (length past + 1) most, init_statement)

  with_equation_read : (n : ℕ) (past : List Equation) (q : Equation) (rest : List Equation) → past ++ q ∷ rest ≡ t.equations → with_equation n (partly t.inits past) q ≡ Got (sofar DueEquation (partly t.inits (past ++ q ∷ [])))
  unfolding with_equation total_nodes
  with_equation_read n past q rest e =
      let fine : Allowed base (first_vars t.count) q = each_at (Allowed base (first_vars t.count)) t.equations q ok.equations-allowed (subst (λ (l : List Equation). q among l) e (among_right past (q ∷ rest) q (inl refl))) in
      let most : length past + 1 ≤ base.equations = omega (arith, ap length e, length-append past (q ∷ rest), ok.equations-most) in
      let sum : total_nodes past + nodes q.right ≤ base.equation_nodes = omega (arith, ap total_nodes e, total_append past (q ∷ rest), ok.equations-nodes) in
      simp (
        has_true (first_vars t.count) q.left fine.its,
        inside_true (written q.right) (first_vars t.count) fine.uses,
        plain-temporal q.right fine.plain,
        le-ltb base.equations (length past + 1) most,
        le-ltb base.equation_nodes (total_nodes past + nodes q.right) sum,
      )

  equation_read : (n : ℕ) (past : List Equation) (q : Equation) (rest : List Equation) → past ++ q ∷ rest ≡ t.equations → equation_statement n (decimal q.left ++ (bytes "=" ++ spelling q.right)) (partly t.inits past) ≡ Got (sofar DueEquation (partly t.inits (past ++ q ∷ [])))
  unfolding equation_statement
  equation_read n past q rest e =
      let fine : Allowed base (first_vars t.count) q = each_at (Allowed base (first_vars t.count)) t.equations q ok.equations-allowed (subst (λ (l : List Equation). q among l) e (among_right past (q ∷ rest) q (inl refl))) in
      let below : q.left < 64 = omega (arith, member_first-vars t.count q.left fine.its, ok.vars-most) in
      simp (
        decimal_read q.left (bytes "=" ++ spelling q.right) (omega arith) (equals_no_digit (spelling q.right)),
        word_behind (bytes "=") (spelling q.right),
        whole_expr_spelt n q.right fine.shallow (uses_below q.right fine.uses),
        equation_statement,
      ) (with_equation_read n past q rest e)

  prop_read : (n : ℕ) → prop_statement n (spelling t.property) (partly t.inits t.equations) ≡ Got (sofar DueEnd t)
  unfolding prop_statement
  prop_read n =
      let within = below_subset t.count (written t.property) ok.property_in in
      simp (
        whole_expr_spelt n t.property ok.property-levels (uses_below t.property within),
        inside_true (written t.property) (first_vars t.count) within,
        le-ltb base.property_nodes (nodes t.property) ok.property-nodes,
      )

  init_not_equation : (cs : List ℕ) → behind (bytes "INIT") (bytes "V" ++ cs) ≡ none
  unfolding behind bytes
  init_not_equation cs = refl

  init_not_prop : (cs : List ℕ) → behind (bytes "INIT") (bytes "PROP" ++ cs) ≡ none
  unfolding behind bytes
  init_not_prop cs = refl

  equation_not_prop : (cs : List ℕ) → behind (bytes "V") (bytes "PROP" ++ cs) ≡ none
  unfolding behind bytes
  equation_not_prop cs = refl

  -- An equation or the property is due.
  abbrev Open : Due → Type 0
  Open u = (u ≡ DueAny) ⊎ (u ≡ DueEquation)

  -- Where an equation or the property is due, what does not begin with `INIT` is read as one of them.
  open_read : (u : Due) → Open u → (n : ℕ) (cs : List ℕ) (s : Typed) → behind (bytes "INIT") cs ≡ none → due_statement u n cs s ≡ equation_or_prop n cs s
  unfolding due_statement
  open_read u (inl e) n cs s h = ap (λ (w : Due). due_statement w n cs s) e ∙ on_other (bytes "INIT") cs _ _ h
  open_read u (inr e) n cs s h = ap (λ (w : Due). due_statement w n cs s) e

  end_read : (n : ℕ) → due_statement DueEnd n (bytes "END") t ≡ Got (sofar DueNone t)
  unfolding due_statement end_statement
  end_read n =
      ap (λ (cs : List ℕ). due_statement DueEnd n cs t) (sym (append-nil (bytes "END"))) ∙ on_word_lem (bytes "END") [] _ _

  prop_reads : (u : Due) → Open u → Reads (prop_spelt t.property ∷ bytes "END" ∷ []) (sofar u (partly t.inits t.equations)) (sofar DueNone t)
  unfolding equation_or_prop
  prop_reads u o =
      reads_next (prop_spelt t.property) (bytes "END" ∷ []) _ (sofar DueEnd t) _
      (λ n.
      open_read u o n (prop_spelt t.property) _ (init_not_prop _)
      ∙ on_other (bytes "V") (prop_spelt t.property) _ _ (equation_not_prop _)
      ∙ on_word_lem (bytes "PROP") (spelling t.property) _ _
      ∙ prop_read n)
      (reads_next (bytes "END") [] _ (sofar DueNone t) _ end_read (reads_none (sofar DueNone t)))

  equation_reads : (qs past : List Equation) (u : Due) → Open u → past ++ qs ≡ t.equations → Reads (map equation_spelt qs ++ (prop_spelt t.property ∷ bytes "END" ∷ [])) (sofar u (partly t.inits past)) (sofar DueNone t)
  unfolding equation_or_prop
  equation_reads [] past u o e = subst (λ (qs : List Equation). Reads (prop_spelt t.property ∷ bytes "END" ∷ []) (sofar u (partly t.inits qs)) (sofar DueNone t)) (sym e ∙ append-nil past) (prop_reads u o)
  equation_reads (q ∷ qs) past u o e =
      reads_next (equation_spelt q) _ _ (sofar DueEquation (partly t.inits (past ++ q ∷ []))) _
      (λ n.
      open_read u o n (equation_spelt q) _ (init_not_equation _)
      ∙ on_word_lem (bytes "V") (decimal q.left ++ (bytes "=" ++ spelling q.right)) _ _
      ∙ equation_read n past q qs e)
      (equation_reads qs (past ++ q ∷ []) DueEquation (inr refl) (append_assoc past (q ∷ []) qs ∙ e))

  init_reads : (ss past : List ℕ) → past ++ ss ≡ t.inits → Reads (map (init_spelt t.count) ss ++ (map equation_spelt t.equations ++ (prop_spelt t.property ∷ bytes "END" ∷ []))) (sofar DueAny (partly past [])) (sofar DueNone t)
  unfolding due_statement
  init_reads [] past e = subst (λ (ss : List ℕ). Reads (map equation_spelt t.equations ++ (prop_spelt t.property ∷ bytes "END" ∷ [])) (sofar DueAny (partly ss [])) (sofar DueNone t)) (sym e ∙ append-nil past) (equation_reads t.equations [] DueAny (inl refl) refl)
  init_reads (s ∷ ss) past e =
      reads_next (init_spelt t.count s) _ _ (sofar DueAny (partly (past ++ s ∷ []) [])) _
      (λ n. on_word_lem (bytes "INIT") (binary_from 0 t.count s) _ _ ∙ init_read n past s ss e)
      (init_reads ss (past ++ s ∷ []) (append_assoc past (s ∷ []) ss ∙ e))

  first_reads : (ss : List ℕ) → ss ≡ t.inits → Reads (map (init_spelt t.count) ss ++ (map equation_spelt t.equations ++ (prop_spelt t.property ∷ bytes "END" ∷ []))) (sofar DueInit (partly [] [])) (sofar DueNone t)
  unfolding due_statement
  first_reads [] e = absurd (omega (arith, ap length e, ok.inits-some))
  first_reads (s ∷ ss) e =
      reads_next (init_spelt t.count s) _ _ (sofar DueAny (partly (s ∷ []) [])) _
      (λ n. on_word_lem (bytes "INIT") (binary_from 0 t.count s) _ _ ∙ init_read n [] s ss e)
      (init_reads ss (s ∷ []) e)

  -- Statements that are the spelling of what was typed are read as that.
  pub spelt-walk : (n : ℕ) (ss : List Statement) → map text_of ss ≡ spelt t → walk statement_read n ss begun ≡ Got (sofar DueNone t)
  unfolding spelt
  spelt-walk = reads_next (vars_spelt t.count) _ begun (sofar DueInit (partly [] [])) (sofar DueNone t) vars_read (first_reads t.inits refl)
