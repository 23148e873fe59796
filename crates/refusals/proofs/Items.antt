-- What a statement says is read exactly where its characters spell it: the reader of a statement, its judgement apart.
use mathlib.Core.Path.{◌≡◌, refl, sym, ap, ◌∙◌}
use mathlib.Core.Logic.{◌⊎◌, inl, inr, ⊎_elim}
use mathlib.Core.Bool.{Bool, true, false, not}
use mathlib.Core.List.{List, [], ◌∷◌, ◌++◌, append-nil}
use mathlib.Core.Option.{Option, none, some}
use Prim.Native.Nat.{ℕ, ◌+◌, ◌<◌}
use native.Mathlib.Omega.{arith}
use lib.Dec.{ltb}
use lib.ListN.{length}
use Rattle.lists.specs.Texts.{bytes}
use Rattle.sets.specs.Sets.{inside}
use Rattle.logic.specs.Expressions.{Expr, nodes, written, decimal, spelling}
use Rattle.logic.specs.Decks.{base}
use Rattle.logic.proofs.Spelling.{NoDigit}
use Rattle.decks.specs.declared.Refusal.{Refusal}
use Rattle.decks.specs.declared.Refusal.TheVariants.{NotDue, TooDeep, Outside, ManyInitials, ManyNodes}
use Rattle.decks.specs.Readings.{Reading, Whole, Wrong, Deep}
use Rattle.decks.specs.Answers.{Outcome, Got, Refused, refuse, afterwards}
use Rattle.cards.specs.Grammar.{Counted, Number, NoNumber, read_number, read_expr}
use Rattle.cards.specs.Typed.{Typed, binary_from, equation_spelt, first_vars}
use Rattle.cards.specs.Read.{behind, Due, DueVars, DueInit, DueAny, DueEquation, DueEnd, DueNone, Sofar, whole_expr, whole_number, vars_statement, read_binary, init_statement, with_equation, equation_statement, prop_statement, end_statement, equation_or_prop, due_statement}
use Rattle.decks.proofs.Outcomes.{refused_got}
use Rattle.cards.proofs.GrammarLaws.{decimal_read, read_decimal}
use Rattle.cards.proofs.WordLaws.{word_behind, behind_word, whole-number-spelt, whole-number_got, whole_expr_spelt, whole_expr_got, binary_read, read_binary_lem}
use Rattle.cards.specs.Deep.{TooFar}
use Rattle.cards.proofs.ExactlyWhen.{too_deep_exactly}
use Rattle.refusals.specs.StatementFaults.{Item, Count, Initial, Equals, Property, Ending, EquationDue, Permits, SpellsItem, DeepIn, added}

-- ---- the reader of a statement, its judgement apart

abbrev word : List ℕ → List ℕ → (List ℕ → Outcome Item) → Outcome Item → Outcome Item
word w cs f other = elim (behind w cs) [ some rs ↦ f rs | none ↦ other ]

abbrev vars_item : ℕ → List ℕ → Outcome Item
vars_item n cs = afterwards (whole_number n base.variables cs) (λ v. Got (Count v))

abbrev state_item : ℕ → Option ℕ → Outcome Item
state_item n none = Refused (NotDue n)
state_item n (some s) = Got (Initial s)

abbrev right_item : ℕ → ℕ → Option (List ℕ) → Outcome Item
right_item n v none = Refused (NotDue n)
right_item n v (some es) = afterwards (whole_expr n es) (λ e. Got (Equals (record { left = v; right = e })))

abbrev left_item : ℕ → Counted → Outcome Item
left_item n (NoNumber rs) = Refused (NotDue n)
left_item n (Number v rs) = right_item n v (behind (bytes "=") rs)

abbrev prop_item : ℕ → List ℕ → Outcome Item
prop_item n cs = afterwards (whole_expr n cs) (λ e. Got (Property e))

abbrev end_item : ℕ → List ℕ → Outcome Item
end_item n [] = Got Ending
end_item n (c ∷ cs) = Refused (NotDue n)

abbrev init_item : ℕ → ℕ → List ℕ → Outcome Item
init_item k n cs = state_item n (read_binary 0 k 0 cs)

open_item : ℕ → List ℕ → Outcome Item
open_item n cs = word (bytes "V") cs (λ rs. left_item n (read_number rs)) (word (bytes "PROP") cs (prop_item n) (Refused (NotDue n)))

pub item_read : Due → ℕ → ℕ → List ℕ → Outcome Item
item_read DueVars k n cs = word (bytes "VARS") cs (vars_item n) (Refused (NotDue n))
item_read DueInit k n cs = word (bytes "INIT") cs (init_item k n) (Refused (NotDue n))
item_read DueAny k n cs = word (bytes "INIT") cs (init_item k n) (open_item n cs)
item_read DueEquation k n cs = open_item n cs
item_read DueEnd k n cs = word (bytes "END") cs (end_item n) (Refused (NotDue n))
item_read DueNone k n cs = Refused (NotDue n)

-- The judgement: 9, 10, 12, 13, 14.
abbrev pub judged : ℕ → Typed → Item → Outcome Sofar
judged n t (Count v) = Got (added t (Count v))
judged n t (Initial s) = refuse (ltb base.initials (length t.inits + 1)) (ManyInitials n) (Got (added t (Initial s)))
judged n t (Equals q) = with_equation n t q
judged n t (Property e) =
    refuse (not (inside (written e) (first_vars t.count))) (Outside 1 n) (refuse (ltb base.property_nodes (nodes e)) (ManyNodes n) (Got (added t (Property e))))
judged n t Ending = Got (added t Ending)

-- ---- a statement is read as what it says, judged

module _ (n : ℕ) (t : Typed) where
  abbrev Judges : Outcome Sofar → Outcome Item → Type 0
  Judges r s = r ≡ afterwards s (judged n t)

  -- A result passed on as an item.
  item_judges : {A : Type 0} (r : Outcome A) (f : A → Outcome Sofar) (i : A → Item) → ((x : A) → f x ≡ judged n t (i x)) → Judges (afterwards r f) (afterwards r (λ x. Got (i x)))
  item_judges (Got x) f i h = h x
  item_judges (Refused a) f i h = refl

  word_judges : (b : Option (List ℕ)) (f : List ℕ → Outcome Sofar) (other : Outcome Sofar) (g : List ℕ → Outcome Item) (else : Outcome Item) → ((rs : List ℕ) → Judges (f rs) (g rs)) → Judges other else → Judges (elim b [ some rs ↦ f rs | none ↦ other ]) (elim b [ some rs ↦ g rs | none ↦ else ])
  word_judges (some rs) f other g else h k = h rs
  word_judges none f other g else h k = k

  vars_judges : (cs : List ℕ) → Judges (vars_statement n cs t) (vars_item n cs)
  unfolding vars_statement
  vars_judges cs = item_judges (whole_number n base.variables cs) _ Count (λ x. refl)

  init_judges : (cs : List ℕ) → Judges (init_statement n cs t) (init_item t.count n cs)
  unfolding init_statement
  init_judges cs = go (read_binary 0 t.count 0 cs)
    where
      go : (r : Option ℕ) → Judges (elim r [
        | none ↦ Refused (NotDue n)
        | some s ↦ refuse (ltb base.initials (length t.inits + 1)) (ManyInitials n) (Got (added t (Initial s)))
      ]) (state_item n r)
      go none = refl
      go (some s) = refl

  equation_judges : (cs : List ℕ) → Judges (equation_statement n cs t) (left_item n (read_number cs))
  unfolding equation_statement
  equation_judges cs = left (read_number cs)
    where
      right : (v : ℕ) (b : Option (List ℕ)) → Judges (elim b [ none ↦ Refused (NotDue n) | some es ↦ afterwards (whole_expr n es) (λ e. with_equation n t (record { left = v; right = e })) ]) (right_item n v b)
      right v none = refl
      right v (some es) = item_judges (whole_expr n es) (λ e. with_equation n t (record { left = v; right = e })) (λ e. Equals (record { left = v; right = e })) (λ e. refl)

      left : (c : Counted) → Judges (elim c [
        | NoNumber rs ↦ Refused (NotDue n)
        | Number v rs ↦ elim (behind (bytes "=") rs) [ none ↦ Refused (NotDue n) | some es ↦ afterwards (whole_expr n es) (λ e. with_equation n t (record { left = v; right = e })) ]
      ]) (left_item n c)
      left (NoNumber rs) = refl
      left (Number v rs) = right v (behind (bytes "=") rs)

  prop_judges : (cs : List ℕ) → Judges (prop_statement n cs t) (prop_item n cs)
  unfolding prop_statement
  prop_judges cs = item_judges (whole_expr n cs) _ Property (λ e. refl)

  end_judges : (cs : List ℕ) → Judges (end_statement n cs t) (end_item n cs)
  unfolding end_statement
  end_judges [] = refl
  end_judges (c ∷ cs) = refl

  open_judges : (cs : List ℕ) → Judges (equation_or_prop n cs t) (open_item n cs)
  unfolding equation_or_prop open_item
  open_judges cs = word_judges (behind (bytes "V") cs) _ _ _ _ equation_judges (word_judges (behind (bytes "PROP") cs) _ _ _ _ prop_judges refl)

  pub due_judges : (u : Due) (cs : List ℕ) → due_statement u n cs t ≡ afterwards (item_read u t.count n cs) (judged n t)
  unfolding due_statement item_read
  due_judges DueVars cs = word_judges (behind (bytes "VARS") cs) _ _ _ _ vars_judges refl
  due_judges DueInit cs = word_judges (behind (bytes "INIT") cs) _ _ _ _ init_judges refl
  due_judges DueAny cs = word_judges (behind (bytes "INIT") cs) _ _ _ _ init_judges (open_judges cs)
  due_judges DueEquation cs = open_judges cs
  due_judges DueEnd cs = word_judges (behind (bytes "END") cs) _ _ _ _ end_judges refl
  due_judges DueNone cs = refl

-- ---- spelt, then read

word_found : (w rs : List ℕ) (f : List ℕ → Outcome Item) (other : Outcome Item) → word w (w ++ rs) f other ≡ f rs
word_found w rs f other = ap (λ (b : Option (List ℕ)). elim b [ some rs ↦ f rs | none ↦ other ]) (word_behind w rs)

word_other : (w cs : List ℕ) (f : List ℕ → Outcome Item) (other : Outcome Item) → behind w cs ≡ none → word w cs f other ≡ other
word_other w cs f other e = ap (λ (b : Option (List ℕ)). elim b [ some rs ↦ f rs | none ↦ other ]) e

no_init_equation : (cs : List ℕ) → behind (bytes "INIT") (bytes "V" ++ cs) ≡ none
unfolding behind bytes
no_init_equation cs = refl

no_init_prop : (cs : List ℕ) → behind (bytes "INIT") (bytes "PROP" ++ cs) ≡ none
unfolding behind bytes
no_init_prop cs = refl

no_equation_prop : (cs : List ℕ) → behind (bytes "V") (bytes "PROP" ++ cs) ≡ none
unfolding behind bytes
no_equation_prop cs = refl

equals_no_digit : (cs : List ℕ) → NoDigit (bytes "=" ++ cs)
unfolding bytes
equals_no_digit cs = λ d. omega arith

-- Where an equation or the property is due, what does not begin with `INIT` is read as one of them.
open_read : (u : Due) (k n : ℕ) (cs : List ℕ) → EquationDue u → behind (bytes "INIT") cs ≡ none → item_read u k n cs ≡ open_item n cs
unfolding item_read
open_read u k n cs (inl e) h = ap (λ (w : Due). item_read w k n cs) e ∙ word_other (bytes "INIT") cs _ _ h
open_read u k n cs (inr e) h = ap (λ (w : Due). item_read w k n cs) e

-- `Vi=` is read, and then the expression decides.
open_equation : (n v : ℕ) (es : List ℕ) → v < 100 → open_item n (bytes "V" ++ (decimal v ++ (bytes "=" ++ es))) ≡ afterwards (whole_expr n es) (λ e. Got (Equals (record { left = v; right = e })))
unfolding open_item
open_equation n v es h =
    word_found (bytes "V") (decimal v ++ (bytes "=" ++ es)) _ _
    ∙ ap (left_item n) (decimal_read v (bytes "=" ++ es) h (equals_no_digit es))
    ∙ ap (right_item n v) (word_behind (bytes "=") es)

-- So is `PROP`.
open_property : (n : ℕ) (es : List ℕ) → open_item n (bytes "PROP" ++ es) ≡ prop_item n es
unfolding open_item
open_property n es = word_other (bytes "V") (bytes "PROP" ++ es) _ _ (no_equation_prop es) ∙ word_found (bytes "PROP") es _ _

pub spelt_item : (u : Due) (k n : ℕ) (cs : List ℕ) (i : Item) → Permits u i → SpellsItem k cs i → item_read u k n cs ≡ Got i
unfolding item_read
spelt_item u k n cs (Count v) p (e, h) =
    ap (λ (w : Due). item_read w k n cs) p
    ∙ ap (item_read DueVars k n) e
    ∙ word_found (bytes "VARS") (decimal v) _ _
    ∙ ap (λ (r : Outcome ℕ). afterwards r (λ v. Got (Count v))) (whole-number-spelt n base.variables v h (omega arith))
spelt_item u k n cs (Initial s) (inl p) (e, h) =
    ap (λ (w : Due). item_read w k n cs) p ∙ ap (item_read DueInit k n) e ∙ word_found (bytes "INIT") (binary_from 0 k s) _ _ ∙ ap (state_item n) (binary_read k s h)
spelt_item u k n cs (Initial s) (inr p) (e, h) =
    ap (λ (w : Due). item_read w k n cs) p ∙ ap (item_read DueAny k n) e ∙ word_found (bytes "INIT") (binary_from 0 k s) _ _ ∙ ap (state_item n) (binary_read k s h)
spelt_item u k n cs (Equals q) p (e, h, l, b) =
    ap (item_read u k n) e
    ∙ open_read u k n (equation_spelt q) p (no_init_equation _)
    ∙ open_equation n q.left (spelling q.right) h
    ∙ ap (λ (r : Outcome Expr). afterwards r (λ e. Got (Equals (record { left = q.left; right = e })))) (whole_expr_spelt n q.right l b)
spelt_item u k n cs (Property x) p (e, l, b) =
    ap (item_read u k n) e
    ∙ open_read u k n (bytes "PROP" ++ spelling x) p (no_init_prop _)
    ∙ open_property n (spelling x)
    ∙ ap (λ (r : Outcome Expr). afterwards r (λ e. Got (Property e))) (whole_expr_spelt n x l b)
spelt_item u k n cs Ending p e = ap (λ (w : Due). item_read w k n cs) p ∙ ap (item_read DueEnd k n) (e ∙ sym (append-nil (bytes "END"))) ∙ word_found (bytes "END") [] _ _

pub deep_item : (u : Due) (k n : ℕ) (cs : List ℕ) → DeepIn u cs → item_read u k n cs ≡ Refused (TooDeep n)
deep_item u k n cs (p, inl (v, es, h, e, far)) =
    ap (item_read u k n) e
    ∙ open_read u k n (bytes "V" ++ (decimal v ++ (bytes "=" ++ es))) p (no_init_equation _)
    ∙ open_equation n v es h
    ∙ ap (λ (r : Outcome Expr). afterwards r (λ e. Got (Equals (record { left = v; right = e })))) ((too_deep_exactly n es).1 far)
deep_item u k n cs (p, inr (es, e, far)) =
    ap (item_read u k n) e
    ∙ open_read u k n (bytes "PROP" ++ es) p (no_init_prop _)
    ∙ open_property n es
    ∙ ap (λ (r : Outcome Expr). afterwards r (λ e. Got (Property e))) ((too_deep_exactly n es).1 far)

-- ---- read, then spelt

number_refused : (n most : ℕ) (cs : List ℕ) (a : Refusal) → whole_number n most cs ≡ Refused a → a ≡ NotDue n
unfolding whole_number
number_refused n most cs a h = go (read_number cs) h
  where
    low : (v : ℕ) (t : Bool) → refuse t (NotDue n) (Got v) ≡ Refused a → a ≡ NotDue n
    low v true e = cc
    low v false e = refused_got (sym e)

    go : (r : Counted) → ◌≡◌ {A = Outcome ℕ} (elim r [ Number v [] ↦ refuse (ltb most v) (NotDue n) (Got v) | Number v (r ∷ rs) ↦ Refused (NotDue n) | NoNumber rs ↦ Refused (NotDue n) ]) (Refused a) → a ≡ NotDue n
    go (Number v []) e = low v (ltb most v) e
    go (Number v (r ∷ rs)) e = cc
    go (NoNumber rs) e = cc

expr_refused : (n : ℕ) (cs : List ℕ) (a : Refusal) → whole_expr n cs ≡ Refused a → (a ≡ NotDue n) ⊎ ((a ≡ TooDeep n) × TooFar cs)
unfolding whole_expr
expr_refused n cs a h = ⊎_elim inl (λ e. inr (e, (too_deep_exactly n cs).0 (h ∙ ap Refused e))) (go (read_expr base.levels cs) h)
  where
    go : (r : Reading) → ◌≡◌ {A = Outcome Expr} (elim r [ Whole e [] ↦ Got e | Whole e (r ∷ rs) ↦ Refused (NotDue n) | Wrong rs ↦ Refused (NotDue n) | Deep rs ↦ Refused (TooDeep n) ]) (Refused a) → (a ≡ NotDue n) ⊎ (a ≡ TooDeep n)
    go (Whole e []) q = refused_got (sym q)
    go (Whole e (r ∷ rs)) q = inl cc
    go (Wrong rs) q = inl cc
    go (Deep rs) q = inr cc

module _ (u : Due) (k n : ℕ) (cs : List ℕ) where
  -- What the statement comes to: what it spells, or 8, or 11 where it is met.
  abbrev pub Comes : Outcome Item → Type 0
  Comes (Got i) = Permits u i × SpellsItem k cs i
  Comes (Refused a) = (a ≡ NotDue n) ⊎ ((a ≡ TooDeep n) × DeepIn u cs)

  word_comes : (w : List ℕ) (f : List ℕ → Outcome Item) (other : Outcome Item) → ((rs : List ℕ) → cs ≡ w ++ rs → Comes (f rs)) → Comes other → Comes (word w cs f other)
  word_comes w f other g o = go (behind w cs) refl
    where
      go : (b : Option (List ℕ)) → behind w cs ≡ b → Comes (elim b [ some rs ↦ f rs | none ↦ other ])
      go (some rs) e = g rs (behind_word w cs rs e)
      go none e = o

  -- A result that is passed on as an item.
  passed_comes : {A : Type 0} (r : Outcome A) (i : A → Item) → ((x : A) → r ≡ Got x → Comes (Got (i x))) → ((a : Refusal) → r ≡ Refused a → Comes (Refused a)) → Comes (afterwards r (λ x. Got (i x)))
  passed_comes (Got x) i g h = g x refl
  passed_comes (Refused a) i g h = h a refl

  vars_comes : u ≡ DueVars → (rs : List ℕ) → cs ≡ bytes "VARS" ++ rs → Comes (vars_item n rs)
  vars_comes p rs e =
      passed_comes (whole_number n base.variables rs) Count
      (λ v h. let w = whole-number_got n base.variables rs v h in (p, (e ∙ ap (λ (l : List ℕ). bytes "VARS" ++ l) w.0, w.1)))
      (λ a h. inl (number_refused n base.variables rs a h))

  init_comes : (u ≡ DueInit) ⊎ (u ≡ DueAny) → (rs : List ℕ) → cs ≡ bytes "INIT" ++ rs → Comes (init_item k n rs)
  init_comes p rs e = go (read_binary 0 k 0 rs) refl
    where
      go : (b : Option ℕ) → read_binary 0 k 0 rs ≡ b → Comes (state_item n b)
      go none q = inl refl
      go (some s) q = let w = read_binary_lem k rs s q in (p, (e ∙ ap (λ (l : List ℕ). bytes "INIT" ++ l) w.0, w.1))

  equation_comes : EquationDue u → (rs : List ℕ) → cs ≡ bytes "V" ++ rs → Comes (left_item n (read_number rs))
  equation_comes p rs e = left (read_number rs) refl
    where
      right : (v : ℕ) (l : List ℕ) → rs ≡ decimal v ++ l → v < 100 → (b : Option (List ℕ)) → behind (bytes "=") l ≡ b → Comes (right_item n v b)
      right v l q h none w = inl refl
      right v l q h (some es) w =
          let start : cs ≡ bytes "V" ++ (decimal v ++ (bytes "=" ++ es)) = e ∙ ap (λ (x : List ℕ). bytes "V" ++ x) (q ∙ ap (λ (x : List ℕ). decimal v ++ x) (behind_word (bytes "=") l es w)) in
          passed_comes (whole_expr n es) (λ x. Equals (record { left = v; right = x }))
          (λ x g. let z = whole_expr_got n es x g in (p, (start ∙ ap (λ (y : List ℕ). bytes "V" ++ (decimal v ++ (bytes "=" ++ y))) z.0, h, z.1, z.2)))
          (λ a g. ⊎_elim inl (λ (d, far). inr (d, (p, inl (v, es, h, start, far)))) (expr_refused n es a g))

      left : (c : Counted) → read_number rs ≡ c → Comes (left_item n c)
      left (NoNumber l) q = inl refl
      left (Number v l) q = let w = read_decimal rs v l q in right v l w.0 w.1 (behind (bytes "=") l) refl

  prop_comes : EquationDue u → (rs : List ℕ) → cs ≡ bytes "PROP" ++ rs → Comes (prop_item n rs)
  prop_comes p rs e =
      passed_comes (whole_expr n rs) Property
      (λ x g. let z = whole_expr_got n rs x g in (p, (e ∙ ap (λ (y : List ℕ). bytes "PROP" ++ y) z.0, z.1, z.2)))
      (λ a g. ⊎_elim inl (λ (d, far). inr (d, (p, inr (rs, e, far)))) (expr_refused n rs a g))

  end_comes : u ≡ DueEnd → (rs : List ℕ) → cs ≡ bytes "END" ++ rs → Comes (end_item n rs)
  end_comes p [] e = (p, e ∙ append-nil (bytes "END"))
  end_comes p (c ∷ rs) e = inl refl

  open_comes : EquationDue u → Comes (open_item n cs)
  unfolding open_item
  open_comes p = word_comes (bytes "V") _ _ (equation_comes p) (word_comes (bytes "PROP") _ _ (prop_comes p) (inl refl))

pub item_comes : (u : Due) (k n : ℕ) (cs : List ℕ) → Comes u k n cs (item_read u k n cs)
unfolding item_read
item_comes DueVars k n cs = word_comes DueVars k n cs (bytes "VARS") _ _ (vars_comes DueVars k n cs refl) (inl refl)
item_comes DueInit k n cs = word_comes DueInit k n cs (bytes "INIT") _ _ (init_comes DueInit k n cs (inl refl)) (inl refl)
item_comes DueAny k n cs = word_comes DueAny k n cs (bytes "INIT") _ _ (init_comes DueAny k n cs (inr refl)) (open_comes DueAny k n cs (inl refl))
item_comes DueEquation k n cs = open_comes DueEquation k n cs (inr refl)
item_comes DueEnd k n cs = word_comes DueEnd k n cs (bytes "END") _ _ (end_comes DueEnd k n cs refl) (inl refl)
item_comes DueNone k n cs = inl refl
