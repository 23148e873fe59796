-- Laws of the words about lists.
use mathlib.Core.Path.{◌≡◌, refl, sym, ap, ap₂, ◌∙◌, subst}
use mathlib.Core.Logic.{◌⊎◌, inl, inr, ⊎_elim, by_cases}
use mathlib.Core.Bool.{Bool, true, false}
use mathlib.Core.List.{List, [], ◌∷◌, ◌++◌, map, append_assoc, append-nil, nil≢cons}
use Prim.Native.Nat.{ℕ, zero, suc, ◌+◌, ◌-◌, ◌<◌, ◌≤◌, min}
use native.Mathlib.Omega.{arith}
use native.Mathlib.Nat.{add-zero, sub-zero, add_assoc}
use native.Mathlib.Numerals.{add-one, unary_clauses}
use native.Mathlib.Decide.{ℕ_discrete, dec_le}
use lib.ListN.{length, take, drop, get_or, set, replicate, length-append, length-replicate, length-drop, length-take, take-append-drop, drop_of_length-le}
use lib.Seq.{take-take, take-append-le, take-nil, drop-nil, drop-cons, drop-append-add, take_at, drop_at, set_at, take_all, take-add, drop-drop, set_split, append_snoc, length-take-le, take-append_seam}
use borrow.Rule.Slice.PartMut.{mid_of, put_mid}
use borrow.Author.Tests.{eq-eqb, ne_eqb}
use Rattle.lists.specs.Lists.{Each, Some, ◌among◌, Distinct, keep, stands, others, firsts, part, padded, splice, fronted, ended, unended, joined}

-- ---- every member, some member

module _ {A : Type 0} where
  pub each_at : (P : A → Type 0) (xs : List A) (x : A) → Each P xs → x among xs → P x
  each_at P [] x ps x4 = elim x4 [ ]
  each_at P (y ∷ ys) x ps (inl e) = subst P (sym e) ps.0
  each_at P (y ∷ ys) x ps (inr m) = each_at P ys x ps.1 m

  pub each_all : (P : A → Type 0) (xs : List A) → ((x : A) → x among xs → P x) → Each P xs
  each_all P [] f = tt
  each_all P (y ∷ ys) f = (f y (inl refl), each_all P ys (λ x m. f x (inr m)))

  pub each_map : (P Q : A → Type 0) (xs : List A) → ((x : A) → P x → Q x) → Each P xs → Each Q xs
  each_map P Q [] f ps = tt
  each_map P Q (y ∷ ys) f ps = (f y ps.0, each_map P Q ys f ps.1)

  pub some-map : (P Q : A → Type 0) (xs : List A) → ((x : A) → P x → Q x) → Some P xs → Some Q xs
  some-map P Q [] f x'' = elim x'' [ ]
  some-map P Q (y ∷ ys) f (inl p) = inl (f y p)
  some-map P Q (y ∷ ys) f (inr s) = inr (some-map P Q ys f s)

  pub some_find : (P : A → Type 0) (xs : List A) → Some P xs → (x : A) × (x among xs) × P x
  some_find P [] x' = elim x' [ ]
  some_find P (y ∷ ys) (inl p) = (y, inl refl, p)
  some_find P (y ∷ ys) (inr s) = let f = some_find P ys s in (f.0, inr f.1, f.2)

  pub find_some : (P : A → Type 0) (xs : List A) (x : A) → x among xs → P x → Some P xs
  find_some P [] x x4 p = elim x4 [ ]
  find_some P (y ∷ ys) x (inl e) p = inl (subst P e p)
  find_some P (y ∷ ys) x (inr m) p = inr (find_some P ys x m p)

  -- Where each x has P or Q, every member has P or some member has Q.
  pub each_or_some : (P Q : A → Type 0) (xs : List A) → ((x : A) → P x ⊎ Q x) → Each P xs ⊎ Some Q xs
  each_or_some P Q [] f = inl tt
  each_or_some P Q (y ∷ ys) f = ⊎_elim (λ p. ⊎_elim (λ ps. inl (p, ps)) (λ s. inr (inr s)) (each_or_some P Q ys f)) (λ q. inr (inl q)) (f y)

  -- ---- members by their places

  pub each_get_or : (P : A → Type 0) (xs : List A) (i : ℕ) (d : A) → Each P xs → i < length xs → P (get_or xs i d)
  each_get_or P [] i d ps h = absurd (omega arith)
  each_get_or P (x ∷ xs) zero d ps h = ps.0
  each_get_or P (x ∷ xs) (suc i) d ps h = each_get_or P xs i d ps.1 (omega arith)

  -- P of what stands behind the end too.
  pub each_default : (P : A → Type 0) (xs : List A) (i : ℕ) (d : A) → Each P xs → P d → P (get_or xs i d)
  each_default P [] i d ps z = z
  each_default P (x ∷ xs) zero d ps z = ps.0
  each_default P (x ∷ xs) (suc i) d ps z = each_default P xs i d ps.1 z

  pub get_or_each : (P : A → Type 0) (xs : List A) (d : A) → ((i : ℕ) → i < length xs → P (get_or xs i d)) → Each P xs
  get_or_each P [] d f = tt
  get_or_each P (x ∷ xs) d f = (f 0 (omega arith), get_or_each P xs d (λ i h. f (suc i) (omega arith)))

  pub get_or_among : (xs : List A) (i : ℕ) (d : A) → i < length xs → get_or xs i d among xs
  get_or_among xs i d h = each_get_or (λ x. x among xs) xs i d (each_all (λ x. x among xs) xs (λ x m. m)) h

  pub among_get_or : (xs : List A) (x d : A) → x among xs → (i : ℕ) × (i < length xs) × (x ≡ get_or xs i d)
  among_get_or [] x d x3 = elim x3 [ ]
  among_get_or (y ∷ ys) x d (inl e) = (0, omega arith, e)
  among_get_or (y ∷ ys) x d (inr m) = let f = among_get_or ys x d m in (suc f.0, omega (arith, f.1), f.2)

  -- ---- two lists, one behind the other

  pub each_append : (P : A → Type 0) (xs ys : List A) → Each P xs → Each P ys → Each P (xs ++ ys)
  each_append P [] ys ps qs = qs
  each_append P (x ∷ xs) ys ps qs = (ps.0, each_append P xs ys ps.1 qs)

  pub append_each : (P : A → Type 0) (xs ys : List A) → Each P (xs ++ ys) → Each P xs × Each P ys
  append_each P [] ys ps = (tt, ps)
  append_each P (x ∷ xs) ys ps = let rest = append_each P xs ys ps.1 in ((ps.0, rest.0), rest.1)

  pub each_take : (P : A → Type 0) (n : ℕ) (xs : List A) → Each P xs → Each P (take n xs)
  each_take P n xs ps = (append_each P (take n xs) (drop n xs) (rw (take-append-drop n xs) ps)).0

  pub each_drop : (P : A → Type 0) (n : ℕ) (xs : List A) → Each P xs → Each P (drop n xs)
  each_drop P n xs ps = (append_each P (take n xs) (drop n xs) (rw (take-append-drop n xs) ps)).1

  pub some_left : (P : A → Type 0) (xs ys : List A) → Some P xs → Some P (xs ++ ys)
  some_left P [] ys x' = elim x' [ ]
  some_left P (x ∷ xs) ys (inl p) = inl p
  some_left P (x ∷ xs) ys (inr s) = inr (some_left P xs ys s)

  pub some_right : (P : A → Type 0) (xs ys : List A) → Some P ys → Some P (xs ++ ys)
  some_right P [] ys s = s
  some_right P (x ∷ xs) ys s = inr (some_right P xs ys s)

  pub append-some : (P : A → Type 0) (xs ys : List A) → Some P (xs ++ ys) → Some P xs ⊎ Some P ys
  append-some P [] ys s = inr s
  append-some P (x ∷ xs) ys (inl p) = inl (inl p)
  append-some P (x ∷ xs) ys (inr s) = ⊎_elim (λ l. inl (inr l)) (λ r. inr r) (append-some P xs ys s)

  pub among_left : (xs ys : List A) (x : A) → x among xs → x among (xs ++ ys)
  among_left xs ys x = some_left (λ y. x ≡ y) xs ys

  pub among_right : (xs ys : List A) (x : A) → x among ys → x among (xs ++ ys)
  among_right xs ys x = some_right (λ y. x ≡ y) xs ys

  pub append_among : (xs ys : List A) (x : A) → x among (xs ++ ys) → (x among xs) ⊎ (x among ys)
  append_among xs ys x = append-some (λ y. x ≡ y) xs ys

-- ---- the list of what f makes of the members

module _ {A B : Type 0} (f : A → B) where
  pub each_of_map : (P : B → Type 0) (xs : List A) → Each (λ x. P (f x)) xs → Each P (map f xs)
  each_of_map P [] ps = tt
  each_of_map P (x ∷ xs) ps = (ps.0, each_of_map P xs ps.1)

  pub map_each : (P : B → Type 0) (xs : List A) → Each P (map f xs) → Each (λ x. P (f x)) xs
  map_each P [] ps = tt
  map_each P (x ∷ xs) ps = (ps.0, map_each P xs ps.1)

  pub some_of_map : (P : B → Type 0) (xs : List A) → Some (λ x. P (f x)) xs → Some P (map f xs)
  some_of_map P [] x' = elim x' [ ]
  some_of_map P (x ∷ xs) (inl p) = inl p
  some_of_map P (x ∷ xs) (inr s) = inr (some_of_map P xs s)

  pub map-some : (P : B → Type 0) (xs : List A) → Some P (map f xs) → Some (λ x. P (f x)) xs
  map-some P [] x' = elim x' [ ]
  map-some P (x ∷ xs) (inl p) = inl p
  map-some P (x ∷ xs) (inr s) = inr (map-some P xs s)

  pub among_of_map : (xs : List A) (x : A) → x among xs → f x among map f xs
  among_of_map xs x m = some_of_map (λ y. f x ≡ y) xs (some-map (λ y. x ≡ y) (λ y. f x ≡ f y) xs (λ y e. ap f e) m)

  pub map_among : (xs : List A) (y : B) → y among map f xs → (x : A) × (x among xs) × (y ≡ f x)
  map_among xs y m = some_find (λ x. y ≡ f x) xs (map-some (λ z. y ≡ z) xs m)

-- ---- whether a number stands in a list

stands_same : (x y : ℕ) (ys : List ℕ) → x ≡ y → stands x (y ∷ ys) ≡ true
unfolding stands
stands_same x y ys e = simp (eq-eqb x y e, stands)

stands_other : (x y : ℕ) (ys : List ℕ) → (x ≡ y → ⊥) → stands x (y ∷ ys) ≡ stands x ys
unfolding stands
stands_other x y ys n = simp (ne_eqb x y n, stands)

pub stands_true : (x : ℕ) (ys : List ℕ) → x among ys → stands x ys ≡ true
stands_true x [] x'' = elim x'' [ ]
stands_true x (y ∷ ys) (inl e) = stands_same x y ys e
stands_true x (y ∷ ys) (inr m) = by_cases (ℕ_discrete x y) (stands_same x y ys) (λ n. stands_other x y ys n ∙ stands_true x ys m)

pub true_stands : (x : ℕ) (ys : List ℕ) → stands x ys ≡ true → x among ys
unfolding stands
true_stands x [] h = let z : ◌≡◌ {A = ℕ} 0 1 = cc in absurd (omega arith)
true_stands x (y ∷ ys) h = by_cases (ℕ_discrete x y) (λ e. inl e) (λ n. inr (true_stands x ys (sym (stands_other x y ys n) ∙ h)))

pub stands_false : (x : ℕ) (ys : List ℕ) → (x among ys → ⊥) → stands x ys ≡ false
stands_false x ys n = go (stands x ys) refl
  where
    go : (b : Bool) → stands x ys ≡ b → stands x ys ≡ false
    go true e = absurd (n (true_stands x ys e))
    go false e = e

pub false_stands : (x : ℕ) (ys : List ℕ) → stands x ys ≡ false → x among ys → ⊥
false_stands x ys e m = let h = stands_true x ys m in let z : ◌≡◌ {A = ℕ} 0 1 = cc in absurd (omega arith)

pub among_dec : (x : ℕ) (ys : List ℕ) → Dec (x among ys)
among_dec x ys = go (stands x ys) refl
  where
    go : (b : Bool) → stands x ys ≡ b → Dec (x among ys)
    go true e = yes (true_stands x ys e)
    go false e = no (false_stands x ys e)

-- ---- the members that differ from one number

others_same : (x y : ℕ) (ys : List ℕ) → x ≡ y → others x (y ∷ ys) ≡ others x ys
unfolding others
others_same x y ys e = simp (eq-eqb x y e, others)

others_other : (x y : ℕ) (ys : List ℕ) → (x ≡ y → ⊥) → others x (y ∷ ys) ≡ y ∷ others x ys
unfolding others
others_other x y ys n = simp (ne_eqb x y n, others)

pub others-append : (x : ℕ) (ys zs : List ℕ) → others x (ys ++ zs) ≡ others x ys ++ others x zs
unfolding others
others-append x [] zs = refl
others-append x (y ∷ ys) zs =
    by_cases
    (ℕ_discrete x y)
    (λ e. rw (others_same x y (ys ++ zs) e, others_same x y ys e) (others-append x ys zs))
    (λ n. rw (others_other x y (ys ++ zs) n, others_other x y ys n) (ap (λ (l : List ℕ). y ∷ l) (others-append x ys zs)))

pub others_absent : (x : ℕ) (ys : List ℕ) → (x among ys → ⊥) → others x ys ≡ ys
unfolding others
others_absent x [] n = refl
others_absent x (y ∷ ys) n = others_other x y ys (λ e. n (inl e)) ∙ ap (λ (l : List ℕ). y ∷ l) (others_absent x ys (λ m. n (inr m)))

pub among_others : (x y : ℕ) (ys : List ℕ) → (x ≡ y → ⊥) → y among ys → y among others x ys
among_others x y [] n x3 = elim x3 [ ]
among_others x y (z ∷ ys) n (inl e) = rw (others_other x z ys (λ d. n (d ∙ sym e))) (inl e)
among_others x y (z ∷ ys) n (inr m) =
    by_cases (ℕ_discrete x z) (λ e. rw (others_same x z ys e) (among_others x y ys n m)) (λ d. rw (others_other x z ys d) (inr (among_others x y ys n m)))

pub others_among : (x y : ℕ) (ys : List ℕ) → y among others x ys → (y among ys) × (x ≡ y → ⊥)
unfolding others
others_among x y [] m = elim m [ ]
others_among x y (z ∷ ys) m = by_cases (ℕ_discrete x z) (λ e. same (others_among x y ys (rw (others_same x z ys e) at m))) (λ d. other d (rw (others_other x z ys d) at m) (others_among x y ys))
  where
    same : (y among ys) × (x ≡ y → ⊥) → (y among z ∷ ys) × (x ≡ y → ⊥)
    same h = (inr h.0, h.1)

    other : (x ≡ z → ⊥) → (y among z ∷ others x ys) → ((y among others x ys) → (y among ys) × (x ≡ y → ⊥)) → (y among z ∷ ys) × (x ≡ y → ⊥)
    other d (inl e) f = (inl e, λ q. d (q ∙ e))
    other d (inr k) f = same (f k)

pub length-others : (x : ℕ) (ys : List ℕ) → length (others x ys) ≤ length ys
unfolding others
length-others x [] = omega arith
length-others x (y ∷ ys) =
    by_cases
    (ℕ_discrete x y)
    (λ e. rw (others_same x y ys e) (omega (arith, length-others x ys)))
    (λ n. rw (others_other x y ys n) (omega (arith, length-others x ys)))

distinct_others : (x : ℕ) (ys : List ℕ) → Distinct ys → Distinct (others x ys)
unfolding others
distinct_others x [] d = tt
distinct_others x (y ∷ ys) d =
    by_cases
    (ℕ_discrete x y)
    (λ e. rw (others_same x y ys e) (distinct_others x ys d.1))
    (λ n. rw (others_other x y ys n) (λ m. d.0 (others_among x y ys m).0, distinct_others x ys d.1))

-- ---- equal members dropped

pub firsts_distinct : (xs : List ℕ) → Distinct (firsts xs)
unfolding firsts
firsts_distinct [] = tt
firsts_distinct (x ∷ xs) = (λ m. (others_among x x (firsts xs) m).1 refl, distinct_others x (firsts xs) (firsts_distinct xs))

pub among_firsts : (x : ℕ) (xs : List ℕ) → x among xs → x among firsts xs
unfolding firsts
among_firsts x [] x'' = elim x'' [ ]
among_firsts x (y ∷ ys) (inl e) = inl e
among_firsts x (y ∷ ys) (inr m) =
    by_cases (ℕ_discrete x y) (λ e. inl e) (λ n. inr (among_others y x (firsts ys) (λ e. n (sym e)) (among_firsts x ys m)))

pub firsts_among : (x : ℕ) (xs : List ℕ) → x among firsts xs → x among xs
unfolding firsts
firsts_among x [] x'' = elim x'' [ ]
firsts_among x (y ∷ ys) (inl e) = inl e
firsts_among x (y ∷ ys) (inr m) = inr (firsts_among x ys (others_among y x (firsts ys) m).0)

pub stands-firsts : (x : ℕ) (xs : List ℕ) → stands x (firsts xs) ≡ stands x xs
stands-firsts x xs =
    by_cases
    (among_dec x xs)
    (λ m. stands_true x (firsts xs) (among_firsts x xs m) ∙ sym (stands_true x xs m))
    (λ n. stands_false x (firsts xs) (λ m. n (firsts_among x xs m)) ∙ sym (stands_false x xs n))

-- One more member at the end: kept where it does not stand before, dropped where it does.
pub firsts_new : (x : ℕ) (xs : List ℕ) → (x among xs → ⊥) → firsts (xs ++ x ∷ []) ≡ firsts xs ++ x ∷ []
unfolding firsts others
firsts_new x [] n = refl
firsts_new x (y ∷ ys) n =
    ap (λ (l : List ℕ). y ∷ others y l) (firsts_new x ys (λ m. n (inr m)))
    ∙ ap (λ (l : List ℕ). y ∷ l) (others-append y (firsts ys) (x ∷ []))
    ∙ ap (λ (l : List ℕ). y ∷ (others y (firsts ys) ++ l)) (others_other y x [] (λ e. n (inl (sym e))))

pub firsts_again : (x : ℕ) (xs : List ℕ) → x among xs → firsts (xs ++ x ∷ []) ≡ firsts xs
unfolding firsts others
firsts_again x [] x'' = elim x'' [ ]
firsts_again x (y ∷ ys) (inr m) = ap (λ (l : List ℕ). y ∷ others y l) (firsts_again x ys m)
firsts_again x (y ∷ ys) (inl e) =
    by_cases
    (among_dec x ys)
    (λ m. ap (λ (l : List ℕ). y ∷ others y l) (firsts_again x ys m))
    (λ n.
    ap (λ (l : List ℕ). y ∷ others y l) (firsts_new x ys n)
    ∙ ap (λ (l : List ℕ). y ∷ l) (others-append y (firsts ys) (x ∷ []))
    ∙ ap (λ (l : List ℕ). y ∷ (others y (firsts ys) ++ l)) (others_same y x [] (sym e))
    ∙ append-nil (y ∷ others y (firsts ys)))

pub firsts_of_distinct : (xs : List ℕ) → Distinct xs → firsts xs ≡ xs
unfolding firsts
firsts_of_distinct [] d = refl
firsts_of_distinct (x ∷ xs) d = ap (λ (l : List ℕ). x ∷ others x l) (firsts_of_distinct xs d.1) ∙ ap (λ (l : List ℕ). x ∷ l) (others_absent x xs d.0)

pub length-firsts : (xs : List ℕ) → length (firsts xs) ≤ length xs
unfolding firsts
length-firsts [] = omega arith
length-firsts (x ∷ xs) = omega (arith, length-others x (firsts xs), length-firsts xs)

pub firsts-some : (xs : List ℕ) → 1 ≤ length xs → 1 ≤ length (firsts xs)
unfolding firsts
firsts-some [] h = h
firsts-some (x ∷ xs) h = omega arith

pub each_firsts : (P : ℕ → Type 0) (xs : List ℕ) → Each P xs → Each P (firsts xs)
each_firsts P xs ps = each_all P (firsts xs) (λ x m. each_at P xs x ps (firsts_among x xs m))

pub distinct_snoc : (x : ℕ) (xs : List ℕ) → Distinct xs → (x among xs → ⊥) → Distinct (xs ++ x ∷ [])
distinct_snoc x [] d n = (λ m. m, tt)
distinct_snoc x (y ∷ ys) d n = (λ m. ⊎_elim d.0 (⊎_elim (λ e. n (inl (sym e))) (λ b. b)) (append_among ys (x ∷ []) y m), distinct_snoc x ys d.1 (λ k. n (inr k)))

pub snoc_distinct : (x : ℕ) (xs : List ℕ) → Distinct (xs ++ x ∷ []) → Distinct xs × (x among xs → ⊥)
snoc_distinct x [] d = (tt, λ m. m)
snoc_distinct x (y ∷ ys) d =
    let rest = snoc_distinct x ys d.1 in (
      (λ m. d.0 (among_left ys (x ∷ []) y m), rest.0),
      ⊎_elim (λ e. d.0 (among_right ys (x ∷ []) y (inl (sym e)))) rest.1,
    )

pub distinct_before : (xs : List ℕ) (x : ℕ) (ys : List ℕ) → Distinct (xs ++ x ∷ ys) → x among xs → ⊥
distinct_before [] x ys d x4 = elim x4 [ ]
distinct_before (y ∷ xs) x ys d (inl e) = d.0 (among_right xs (x ∷ ys) y (inl (sym e)))
distinct_before (y ∷ xs) x ys d (inr m) = distinct_before xs x ys d.1 m

-- ---- the members that pass a test

module _ {A : Type 0} (t : A → Bool) where
  pub keep_pass : (x : A) (xs : List A) → t x ≡ true → keep t (x ∷ xs) ≡ x ∷ keep t xs
  unfolding keep
  keep_pass x xs e = simp (e, keep)

  pub keep_fail : (x : A) (xs : List A) → t x ≡ false → keep t (x ∷ xs) ≡ keep t xs
  unfolding keep
  keep_fail x xs e = simp (e, keep)

  test_cases : (x : A) → (t x ≡ true) ⊎ (t x ≡ false)
  test_cases x = go (t x) refl
    where
      go : (b : Bool) → t x ≡ b → (t x ≡ true) ⊎ (t x ≡ false)
      go true e = inl e
      go false e = inr e

  pub keep_append : (xs ys : List A) → keep t (xs ++ ys) ≡ keep t xs ++ keep t ys
  unfolding keep
  keep_append [] ys = refl
  keep_append (x ∷ xs) ys =
      ⊎_elim
      (λ e. rw (keep_pass x (xs ++ ys) e, keep_pass x xs e) (ap (λ (l : List A). x ∷ l) (keep_append xs ys)))
      (λ e. rw (keep_fail x (xs ++ ys) e, keep_fail x xs e) (keep_append xs ys))
      (test_cases x)

  pub among_keep : (x : A) (xs : List A) → t x ≡ true → x among xs → x among keep t xs
  among_keep x [] e x3 = elim x3 [ ]
  among_keep x (y ∷ ys) e (inl q) = rw (keep_pass y ys (sym (ap t q) ∙ e)) (inl q)
  among_keep x (y ∷ ys) e (inr m) =
      ⊎_elim (λ p. rw (keep_pass y ys p) (inr (among_keep x ys e m))) (λ p. rw (keep_fail y ys p) (among_keep x ys e m)) (test_cases y)

  -- P of every member that passes the test.
  pub each_keep : (P : A → Type 0) (xs : List A) → Each (λ x. t x ≡ true → P x) xs → Each P (keep t xs)
  unfolding keep
  each_keep P [] ps = tt
  each_keep P (x ∷ xs) ps =
      ⊎_elim (λ e. rw (keep_pass x xs e) (ps.0 e, each_keep P xs ps.1)) (λ e. rw (keep_fail x xs e) (each_keep P xs ps.1)) (test_cases x)

  pub keep_among : (x : A) (xs : List A) → x among keep t xs → (x among xs) × (t x ≡ true)
  keep_among x xs = each_at (λ y. (y among xs) × (t y ≡ true)) (keep t xs) x (each_keep (λ y. (y among xs) × (t y ≡ true)) xs (each_all (λ y. t y ≡ true → (y among xs) × (t y ≡ true)) xs (λ y m e. (m, e))))

  pub length-keep : (xs : List A) → length (keep t xs) ≤ length xs
  unfolding keep
  length-keep [] = omega arith
  length-keep (x ∷ xs) =
      ⊎_elim (λ e. rw (keep_pass x xs e) (omega (arith, length-keep xs))) (λ e. rw (keep_fail x xs e) (omega (arith, length-keep xs))) (test_cases x)

  pub keep_all : (xs : List A) → Each (λ x. t x ≡ true) xs → keep t xs ≡ xs
  unfolding keep
  keep_all [] ps = refl
  keep_all (x ∷ xs) ps = keep_pass x xs ps.0 ∙ ap (λ (l : List A). x ∷ l) (keep_all xs ps.1)

  pub keep_none : (xs : List A) → Each (λ x. t x ≡ false) xs → keep t xs ≡ []
  unfolding keep
  keep_none [] ps = refl
  keep_none (x ∷ xs) ps = keep_fail x xs ps.0 ∙ keep_none xs ps.1

module _ {A : Type 0} (t u : A → Bool) where
  -- Two tests that agree on the members keep the same.
  pub keep_agree : (xs : List A) → Each (λ x. t x ≡ u x) xs → keep t xs ≡ keep u xs
  unfolding keep
  keep_agree [] ps = refl
  keep_agree (x ∷ xs) ps =
      ⊎_elim
      (λ e. rw (keep_pass t x xs e, keep_pass u x xs (sym ps.0 ∙ e)) (ap (λ (l : List A). x ∷ l) (keep_agree xs ps.1)))
      (λ e. rw (keep_fail t x xs e, keep_fail u x xs (sym ps.0 ∙ e)) (keep_agree xs ps.1))
      (test_cases t x)

  -- Where u asks for more than t, t need not be asked first.
  pub keep-keep : (xs : List A) → ((x : A) → u x ≡ true → t x ≡ true) → keep u (keep t xs) ≡ keep u xs
  unfolding keep
  keep-keep [] h = refl
  keep-keep (x ∷ xs) h =
      ⊎_elim
      (λ e.
      rw (keep_pass t x xs e)
      (⊎_elim
      (λ p. rw (keep_pass u x (keep t xs) p, keep_pass u x xs p) (ap (λ (l : List A). x ∷ l) (keep-keep xs h)))
      (λ p. rw (keep_fail u x (keep t xs) p, keep_fail u x xs p) (keep-keep xs h))
      (test_cases u x)))
      (λ e. ⊎_elim (λ p. let q = h x p in let z : ◌≡◌ {A = ℕ} 0 1 = cc in absurd (omega arith)) (λ p. rw (keep_fail t x xs e, keep_fail u x xs p) (keep-keep xs h)) (test_cases u x))
      (test_cases t x)

-- ---- a part of a list, place by place

module _ (l : List ℕ) (i j : ℕ) where
  pub part_next : i < j → i < length l → part i j l ≡ get_or l i 0 ∷ part (i + 1) j l
  part_next h k =
      let e : j - i ≡ suc (j - (i + 1)) = omega arith in
      ap₂ (λ (n : ℕ) (r : List ℕ). take n r) e (drop-cons l i 0 k ∙ ap (λ (n : ℕ). get_or l i 0 ∷ drop n l) (sym (add-one i)))

  pub part_off : length l ≤ i → part i j l ≡ []
  part_off h = ap (λ (r : List ℕ). take (j - i) r) (drop_of_length-le l h) ∙ take-nil (j - i)

  pub part-done : j ≤ i → part i j l ≡ []
  part-done h = let e : j - i ≡ 0 = omega arith in ap (λ (n : ℕ). take n (drop i l)) e

  pub length_part : j ≤ length l → length (part i j l) ≡ j - i
  length_part h = omega (arith, length-take (j - i) (drop i l), length-drop i l)

-- ---- the first places of a list, and a list filled up

module _ {A : Type 0} where
  -- A place of the list holds the same, whatever stands for the places behind its end.
  pub get_d_any : (l : List A) (i : ℕ) (d e : A) → i < length l → get_or l i d ≡ get_or l i e
  get_d_any [] i d e h = absurd (omega arith)
  get_d_any (x ∷ xs) zero d e h = refl
  get_d_any (x ∷ xs) (suc i) d e h = get_d_any xs i d e (omega arith)

  pub take_min : (n : ℕ) (l : List A) → take (min n (length l)) l ≡ take n l
  take_min n l =
      by_cases
      (dec_le n (length l))
      (λ h. let e : min n (length l) ≡ n = omega arith in ap (λ (k : ℕ). take k l) e)
      (λ h. take_all (min n (length l)) l (omega arith) ∙ sym (take_all n l (omega arith)))

  pub drop-take : (i n : ℕ) (l : List A) → drop i (take (i + n) l) ≡ take n (drop i l)
  drop-take zero n l = let e : 0 + n ≡ n = omega arith in ap (λ (k : ℕ). take k l) e
  drop-take (suc i) n [] = ap (drop (suc i)) (take_all (suc i + n) [] (omega arith)) ∙ sym (take_all n [] (omega arith))
  drop-take (suc i) n (x ∷ xs) = let e : suc i + n ≡ suc (i + n) = omega arith in ap (λ (k : ℕ). drop (suc i) (take k (x ∷ xs))) e ∙ drop-take i n xs

  take-replicate : (n k : ℕ) (x : A) → n ≤ k → take n (replicate k x) ≡ replicate n x
  take-replicate zero k x h = refl
  take-replicate (suc n) zero x h = absurd (omega arith)
  take-replicate (suc n) (suc k) x h = ap (λ (l : List A). x ∷ l) (take-replicate n k x (omega arith))

  -- The first n places of a list that is filled up far enough.
  pub take-filled : (n k : ℕ) (l : List A) (x : A) → n ≤ k → take n (l ++ replicate k x) ≡ take n l ++ replicate (n - length l) x
  take-filled zero k l x h = let e : 0 - length l ≡ 0 = omega arith in sym (ap (λ (m : ℕ). replicate m x) e)
  take-filled (suc n) k [] x h = simp unary_clauses (take-replicate (suc n) k x h)
  take-filled (suc n) k (y ∷ ys) x h = simp unary_clauses (ap (λ (m : List A). y ∷ m) (take-filled n k ys x (omega arith)))

pub take_less : (m n : ℕ) (xs ys : List ℕ) → m ≤ n → take n xs ≡ take n ys → take m xs ≡ take m ys
take_less m n xs ys h e = sym (take-take m n xs h) ∙ ap (take m) e ∙ take-take m n ys h

-- A place of a list that is filled up.
pub get_or-filled : (f : List ℕ) (m i x d : ℕ) → i < length f + m → get_or (f ++ replicate m x) i d ≡ get_or f i x
get_or-filled [] zero i x d h = absurd (omega arith)
get_or-filled [] (suc m) zero x d h = refl
get_or-filled [] (suc m) (suc i) x d h = get_or-filled [] m i x d (omega arith)
get_or-filled (y ∷ ys) m zero x d h = refl
get_or-filled (y ∷ ys) m (suc i) x d h = get_or-filled ys m i x d (omega arith)

pub each_replicate : (P : ℕ → Type 0) (n x : ℕ) → P x → Each P (replicate n x)
each_replicate P zero x p = tt
each_replicate P (suc n) x p = (p, each_replicate P n x p)

-- ---- a list filled up with zeros

pub padded-nil : (n : ℕ) → padded n [] ≡ replicate n 0
padded-nil n = ap (λ (k : ℕ). replicate k 0) (sub-zero n)

pub length-padded : (n : ℕ) (l : List ℕ) → length l ≤ n → length (padded n l) ≡ n
length-padded n l h = length-append l (replicate (n - length l) 0) ∙ omega (arith, length-replicate {A = ℕ} (n - length l) 0)

pub take-padded : (n : ℕ) (l : List ℕ) → take (length l) (padded n l) ≡ l
take-padded n l = take-append_seam l (replicate (n - length l) 0)

get_or_zeros : (l : List ℕ) (n i : ℕ) → get_or (l ++ replicate n 0) i 0 ≡ get_or l i 0
get_or_zeros [] zero i = refl
get_or_zeros [] (suc n) zero = refl
get_or_zeros [] (suc n) (suc i) = get_or_zeros [] n i
get_or_zeros (x ∷ xs) n zero = refl
get_or_zeros (x ∷ xs) n (suc i) = get_or_zeros xs n i

-- A place holds what the list has there, and 0 behind its end.
pub get_or-padded : (n : ℕ) (l : List ℕ) (i : ℕ) → get_or (padded n l) i 0 ≡ get_or l i 0
get_or-padded n l i = get_or_zeros l (n - length l) i

pub padded_snoc : (n : ℕ) (l : List ℕ) (x : ℕ) → length l < n → set (padded n l) (length l) x ≡ padded n (l ++ x ∷ [])
padded_snoc n l x h =
    let more : n - length l ≡ suc (n - suc (length l)) = omega arith in
    let less : n - suc (length l) ≡ n - length (l ++ x ∷ []) = omega (arith, length-append l (x ∷ [])) in
    ap (λ (k : ℕ). set (l ++ replicate k 0) (length l) x) more
    ∙ set_at l 0 (replicate (n - suc (length l)) 0) x (length l) refl
    ∙ sym (append_snoc l x (replicate (n - suc (length l)) 0))
    ∙ ap (λ (k : ℕ). l ++ (x ∷ []) ++ replicate k 0) less

pub padded_one : (n : ℕ) (l m : List ℕ) → length l ≡ length m → padded n l ≡ padded n m → l ≡ m
padded_one n l m e p = sym (take-padded n l) ∙ ap (λ (k : List ℕ). take (length l) k) p ∙ ap (λ (k : ℕ). take k (padded n m)) e ∙ take-padded n m

drop_zeros : (n k : ℕ) → drop {A = ℕ} k (replicate n 0) ≡ replicate (n - k) 0
drop_zeros zero k = let e : 0 ≡ 0 - k = omega arith in drop-nil k ∙ ap (λ (m : ℕ). replicate m 0) e
drop_zeros (suc n) zero = let e : suc n ≡ suc n - 0 = omega arith in ap (λ (m : ℕ). replicate m 0) e
drop_zeros (suc n) (suc k) = let e : n - k ≡ suc n - suc k = omega arith in drop_zeros n k ∙ ap (λ (m : ℕ). replicate m 0) e

-- A list put behind it.
pub padded-append : (n : ℕ) (l vs : List ℕ) → splice (length l) vs (padded n l) ≡ padded n (l ++ vs)
padded-append n l vs =
    let less : n - length l - length vs ≡ n - length (l ++ vs) = omega (arith, length-append l vs) in
    ap (λ (m : List ℕ). m ++ (vs ++ drop (length l + length vs) (padded n l))) (take-append_seam l (replicate (n - length l) 0))
    ∙ ap (λ (m : List ℕ). l ++ (vs ++ m)) (drop-append-add l (replicate (n - length l) 0) (length vs) ∙ drop_zeros (n - length l) (length vs) ∙ ap (λ (k : ℕ). replicate k 0) less)
    ∙ sym (append_assoc l vs (replicate (n - length (l ++ vs)) 0))

-- ---- a buffer with something put over a part of it

pub splice_nothing : (i : ℕ) (l : List ℕ) → splice i [] l ≡ l
splice_nothing i l = ap (λ (k : ℕ). take i l ++ drop k l) (add-zero i) ∙ take-append-drop i l

pub length-splice : (i : ℕ) (vs l : List ℕ) → i + length vs ≤ length l → length (splice i vs l) ≡ length l
length-splice i vs l h =
    omega (
      arith,
      length-append (take i l) (vs ++ drop (i + length vs) l),
      length-append vs (drop (i + length vs) l),
      length-take-le i l (omega arith),
      length-drop (i + length vs) l,
    )

splice-head : (i : ℕ) (vs l : List ℕ) → i ≤ length l → length (take i l ++ vs) ≡ i + length vs
splice-head i vs l h = omega (arith, length-append (take i l) vs, length-take-le i l h)

-- What stands up to the end of the part, and behind it.
pub take-splice : (i : ℕ) (vs l : List ℕ) → i ≤ length l → take (i + length vs) (splice i vs l) ≡ take i l ++ vs
take-splice i vs l h =
    ap (take (i + length vs)) (sym (append_assoc (take i l) vs (drop (i + length vs) l)))
    ∙ take_at (take i l ++ vs) (drop (i + length vs) l) (i + length vs) (splice-head i vs l h)

pub drop-splice : (i : ℕ) (vs l : List ℕ) → i ≤ length l → drop (i + length vs) (splice i vs l) ≡ drop (i + length vs) l
drop-splice i vs l h =
    ap (drop (i + length vs)) (sym (append_assoc (take i l) vs (drop (i + length vs) l)))
    ∙ drop_at (take i l ++ vs) (drop (i + length vs) l) (i + length vs) (splice-head i vs l h)

-- One part behind the other.
pub splice-splice : (i : ℕ) (vs ws l : List ℕ) → i ≤ length l → splice (i + length vs) ws (splice i vs l) ≡ splice i (vs ++ ws) l
splice-splice i vs ws l h =
    let n : ℕ = i + length vs in
    ap (λ (m : List ℕ). m ++ (ws ++ drop (n + length ws) (splice i vs l))) (take-splice i vs l h)
    ∙ ap
    (λ (m : List ℕ). take i l ++ vs ++ (ws ++ m))
    (sym (drop-drop (length ws) n (splice i vs l)) ∙ ap (drop (length ws)) (drop-splice i vs l h) ∙ drop-drop (length ws) n l)
    ∙ append_assoc (take i l) vs (ws ++ drop (n + length ws) l)
    ∙ ap (λ (m : List ℕ). take i l ++ m) (sym (append_assoc vs ws (drop (n + length ws) l)))
    ∙ ap (λ (k : ℕ). take i l ++ (vs ++ ws ++ drop k l)) (add_assoc i (length vs) (length ws) ∙ ap (λ (k : ℕ). i + k) (sym (length-append vs ws)))

-- One store.
pub set-splice : (l : List ℕ) (i x : ℕ) → i < length l → set l i x ≡ splice i (x ∷ []) l
set-splice l i x h = let e : suc i ≡ i + 1 = omega arith in set_split l i x h ∙ ap (λ (k : ℕ). take i l ++ x ∷ drop k l) e

-- One store before what was put from the next place on.
pub set-before-splice : (i x : ℕ) (vs l : List ℕ) → i + 1 + length vs ≤ length l → set (splice (i + 1) vs l) i x ≡ splice i (x ∷ vs) l
set-before-splice i x vs l h =
    let k : List ℕ = splice (i + 1) vs l in
    let long : length (take (i + 1) l) ≡ i + 1 = length-take-le (i + 1) l (omega arith) in
    let room : length k ≡ length l = length-splice (i + 1) vs l h in
    let e : i + 1 + length vs ≡ i + suc (length vs) = omega arith in
    set-splice k i x (omega arith)
    ∙ ap₂
    (λ (p q : List ℕ). p ++ x ∷ q)
    (take-append-le i (take (i + 1) l) (vs ++ drop (i + 1 + length vs) l) (omega arith) ∙ take-take i (i + 1) l (omega arith))
    (drop_at (take (i + 1) l) (vs ++ drop (i + 1 + length vs) l) (i + 1) long)
    ∙ ap (λ (n : ℕ). take i l ++ x ∷ (vs ++ drop n l)) e

-- The part from a on, and the whole with ys in its place.
pub part-rest : (a : ℕ) (xs : List ℕ) → mid_of a (length xs - a) xs ≡ drop a xs
part-rest a xs = take_all (length xs - a) (drop a xs) (omega (arith, length-drop a xs))

pub put_rest : (a : ℕ) (xs ys : List ℕ) → put_mid a (length xs - a) xs ys ≡ take a xs ++ ys
put_rest a xs ys =
    ap (λ (l : List ℕ). take a xs ++ (ys ++ l)) (drop_of_length-le (drop a xs) {i = length xs - a} (omega (arith, length-drop a xs)))
    ∙ ap (λ (l : List ℕ). take a xs ++ l) (append-nil ys)

-- A splice in the part from a on is a splice in the whole.
pub splice-part : (a i : ℕ) (vs xs ys : List ℕ) → ys ≡ splice i vs (mid_of a (length xs - a) xs) → put_mid a (length xs - a) xs ys ≡ splice (a + i) vs xs
splice-part a i vs xs ys e =
    put_rest a xs ys
    ∙ ap (λ (l : List ℕ). take a xs ++ l) (e ∙ ap (splice i vs) (part-rest a xs))
    ∙ sym (append_assoc (take a xs) (take i (drop a xs)) (vs ++ drop (i + length vs) (drop a xs)))
    ∙ ap (λ (l : List ℕ). l ++ (vs ++ drop (i + length vs) (drop a xs))) (sym (take-add a i xs))
    ∙ ap (λ (l : List ℕ). take (a + i) xs ++ (vs ++ l)) (drop-drop (i + length vs) a xs ∙ ap (λ (k : ℕ). drop k xs) (sym (add_assoc a i (length vs))))

pub splice-rest : (a : ℕ) (vs xs ys : List ℕ) → ys ≡ splice 0 vs (mid_of a (length xs - a) xs) → put_mid a (length xs - a) xs ys ≡ splice a vs xs
splice-rest a vs xs ys e = splice-part a 0 vs xs ys e ∙ ap (λ (k : ℕ). splice k vs xs) (add-zero a)

-- ---- the lines of a text

ended_end : (bs : List ℕ) → ended (10 ∷ bs) ≡ [] ∷ ended bs
unfolding ended
ended_end bs = refl

ended_byte : (b : ℕ) (bs : List ℕ) → (b ≡ 10 → ⊥) → ended (b ∷ bs) ≡ fronted b (ended bs)
unfolding ended
ended_byte b bs n = simp (ne_eqb b 10 n, ended)

unended-before : (b : ℕ) (bs : List ℕ) → 10 among b ∷ bs → unended (b ∷ bs) ≡ unended bs
unfolding unended
unended-before b bs m = simp (stands_true 10 (b ∷ bs) m, unended)

-- A text without byte 10 has no line.
pub unended-whole : (t : List ℕ) → (10 among t → ⊥) → unended t ≡ t
unfolding unended
unended-whole [] n = refl
unended-whole (b ∷ bs) n = simp (stands_false 10 (b ∷ bs) n, unended)

pub ended_none : (t : List ℕ) → (10 among t → ⊥) → ended t ≡ []
unfolding ended fronted
ended_none [] n = refl
ended_none (b ∷ bs) n = ended_byte b bs (λ e. n (inl (sym e))) ∙ ap (fronted b) (ended_none bs (λ m. n (inr m)))

-- What a reader from the left does: a line, its byte 10, and then the lines of the rest.
pub ended_next : (line rest : List ℕ) → (10 among line → ⊥) → ended (line ++ 10 ∷ rest) ≡ line ∷ ended rest
unfolding fronted
ended_next [] rest n = ended_end rest
ended_next (b ∷ bs) rest n = ended_byte b (bs ++ 10 ∷ rest) (λ e. n (inl (sym e))) ∙ ap (fronted b) (ended_next bs rest (λ m. n (inr m)))

pub unended_next : (line rest : List ℕ) → unended (line ++ 10 ∷ rest) ≡ unended rest
unended_next [] rest = unended-before 10 rest (inl refl)
unended_next (b ∷ bs) rest = unended-before b (bs ++ 10 ∷ rest) (inr (among_right bs (10 ∷ rest) 10 (inl refl))) ∙ unended_next bs rest

-- A text with a byte 10 has a first line.
pub first_line : (t : List ℕ) → 10 among t → (line : List ℕ) × (rest : List ℕ) × (10 among line → ⊥) × (t ≡ line ++ 10 ∷ rest)
first_line [] m = elim m [ ]
first_line (b ∷ bs) m =
    by_cases
    (ℕ_discrete 10 b)
    (λ e. ([], bs, λ k. k, ap (λ (x : ℕ). x ∷ bs) (sym e)))
    (λ n.
    let f = first_line bs (⊎_elim (λ e. absurd (n e)) (λ k. k) m) in
    (b ∷ f.0, f.1, ⊎_elim n f.2, ap (λ (l : List ℕ). b ∷ l) f.3))

ended_some : (t : List ℕ) → 10 among t → ended t ≡ [] → ⊥
ended_some t m e = let f = first_line t m in nil≢cons (sym e ∙ ap ended f.3 ∙ ended_next f.0 f.1 f.2)

joined-fronted : (b : ℕ) (ls : List (List ℕ)) → (ls ≡ [] → ⊥) → joined (fronted b ls) ≡ b ∷ joined ls
unfolding joined fronted
joined-fronted b [] n = absurd (n refl)
joined-fronted b (l ∷ ls) n = refl

-- A text is its lines, each followed by byte 10, and then what stands behind the last.
pub joined-ended : (t : List ℕ) → joined (ended t) ++ unended t ≡ t
unfolding joined ended unended stands
joined-ended [] = refl
joined-ended (b ∷ bs) =
    by_cases
    (ℕ_discrete 10 b)
    (λ e. subst (λ (x : ℕ). joined (ended (x ∷ bs)) ++ unended (x ∷ bs) ≡ x ∷ bs) e (ap (λ (l : List ℕ). 10 ∷ l) (joined-ended bs)))
    (λ n.
    by_cases
    (among_dec 10 bs)
    (λ m.
    rw (ended_byte b bs (λ e. n (sym e)), unended-before b bs (inr m), joined-fronted b (ended bs) (ended_some bs m))
    (ap (λ (l : List ℕ). b ∷ l) (joined-ended bs)))
    (λ k. rw (ended_none (b ∷ bs) (⊎_elim n k)) (unended-whole (b ∷ bs) (⊎_elim n k))))

fronted-free : (b : ℕ) (ls : List (List ℕ)) → (10 ≡ b → ⊥) → Each (λ l. 10 among l → ⊥) ls → Each (λ l. 10 among l → ⊥) (fronted b ls)
unfolding fronted
fronted-free b [] n ns = tt
fronted-free b (l ∷ ls) n ns = (⊎_elim n ns.0, ns.1)

-- Neither a line nor what stands behind the last one holds a byte 10.
pub ended-free : (t : List ℕ) → Each (λ l. 10 among l → ⊥) (ended t)
unfolding ended
ended-free [] = tt
ended-free (b ∷ bs) =
    by_cases
    (ℕ_discrete 10 b)
    (λ e. subst (λ (x : ℕ). Each (λ l. 10 among l → ⊥) (ended (x ∷ bs))) e (λ m. m, ended-free bs))
    (λ n. rw (ended_byte b bs (λ e. n (sym e))) (fronted-free b (ended bs) n (ended-free bs)))

pub unended-free : (t : List ℕ) → 10 among unended t → ⊥
unfolding unended
unended-free [] m = m
unended-free (b ∷ bs) m = by_cases (among_dec 10 (b ∷ bs)) (λ k. unended-free bs (rw (unended-before b bs k) at m)) (λ n. n (rw (unended-whole (b ∷ bs) n) at m))

-- Lines that hold no byte 10, written one behind the other, read as those lines.
pub ended-joined-append : (ls : List (List ℕ)) (rest : List ℕ) → Each (λ l. 10 among l → ⊥) ls → ended (joined ls ++ rest) ≡ ls ++ ended rest
unfolding joined
ended-joined-append [] rest ns = refl
ended-joined-append (l ∷ ls) rest ns =
    ap ended (append_assoc l (10 ∷ joined ls) rest)
    ∙ ended_next l (joined ls ++ rest) ns.0
    ∙ ap (λ (m : List (List ℕ)). l ∷ m) (ended-joined-append ls rest ns.1)

pub unended-joined-append : (ls : List (List ℕ)) (rest : List ℕ) → unended (joined ls ++ rest) ≡ unended rest
unfolding joined
unended-joined-append [] rest = refl
unended-joined-append (l ∷ ls) rest =
    ap unended (append_assoc l (10 ∷ joined ls) rest) ∙ unended_next l (joined ls ++ rest) ∙ unended-joined-append ls rest

pub ended-joined : (ls : List (List ℕ)) → Each (λ l. 10 among l → ⊥) ls → ended (joined ls) ≡ ls
unfolding ended
ended-joined ls ns = ap ended (sym (append-nil (joined ls))) ∙ ended-joined-append ls [] ns ∙ append-nil ls

pub unended-joined : (ls : List (List ℕ)) → unended (joined ls) ≡ []
unfolding unended
unended-joined ls = ap unended (sym (append-nil (joined ls))) ∙ unended-joined-append ls []

pub joined-append : (ks ls : List (List ℕ)) → joined (ks ++ ls) ≡ joined ks ++ joined ls
unfolding joined
joined-append [] ls = refl
joined-append (k ∷ ks) ls = ap (λ (m : List ℕ). k ++ 10 ∷ m) (joined-append ks ls) ∙ sym (append_assoc k (10 ∷ joined ks) (joined ls))
