-- What a character begins, as the code marks it, and what the grammar makes of it.
use Rattle.std.proofs.Common.{◌≡◌, refl, ap, ◌∙◌, Bool, List, [], ◌∷◌, ℕ, zero, suc, Some, None}
use mathlib.Core.Option.{Option, none, some}
use Rattle.logic.specs.Expressions.{Op1, Op2, const_node, node1, node2}
use Rattle.decks.specs.Readings.{Reading, Wrong, Deep}
use Rattle.cards.specs.Grammar.{Sign, Constant, Variable, Before, Bracket, NoSign, sign_of, joint_of, past_joint, levelled, begins, read_expr}
use Rattle.phrases.specs.declared.Sign.{Sign as Mark}
use Rattle.phrases.specs.declared.Sign.TheVariants.{Variable as VariableMark, Constant as ConstantMark, Operator as OperatorMark, Bracket as BracketMark}
use Rattle.phrases.specs.Phrases.{marked, joint_node}

-- ---- the sign of a mark

pub mark_none : (s : Sign) → None ≡ marked s → s ≡ NoSign
mark_none (Constant b) e = cc
mark_none Variable e = cc
mark_none (Before o) e = cc
mark_none Bracket e = cc
mark_none NoSign e = refl

pub mark_some : (s : Sign) (m : Mark) → Some m ≡ marked s → s ≡ NoSign → ⊥
mark_some s m e n = let z : Some m ≡ marked NoSign = e ∙ ap marked n in cc

pub mark_variable : (s : Sign) → Some VariableMark ≡ marked s → s ≡ Variable
mark_variable (Constant b) e = cc
mark_variable Variable e = refl
mark_variable (Before o) e = cc
mark_variable Bracket e = cc
mark_variable NoSign e = cc

pub mark_constant : (s : Sign) (node : ℕ) → Some (ConstantMark node) ≡ marked s → (b : Bool) × (s ≡ Constant b) × (node ≡ const_node b)
mark_constant (Constant b) node e = (b, refl, cc)
mark_constant Variable node e = cc
mark_constant (Before o) node e = cc
mark_constant Bracket node e = cc
mark_constant NoSign node e = cc

pub mark_operator : (s : Sign) (node : ℕ) → Some (OperatorMark node) ≡ marked s → (o : Op1) × (s ≡ Before o) × (node ≡ node1 o)
mark_operator (Constant b) node e = cc
mark_operator Variable node e = cc
mark_operator (Before o) node e = (o, refl, cc)
mark_operator Bracket node e = cc
mark_operator NoSign node e = cc

pub mark_bracket : (s : Sign) → Some BracketMark ≡ marked s → s ≡ Bracket
mark_bracket (Constant b) e = cc
mark_bracket Variable e = cc
mark_bracket (Before o) e = cc
mark_bracket Bracket e = refl
mark_bracket NoSign e = cc

pub no_joint : (j : Option Op2) → None ≡ joint_node j → j ≡ none
no_joint none e = refl
no_joint (some o) e = cc

pub some_joint : (j : Option Op2) (node : ℕ) → Some node ≡ joint_node j → (o : Op2) × (j ≡ some o) × (node ≡ node2 o)
some_joint none node e = cc
some_joint (some o) node e = (o, refl, cc)

-- ---- the grammar, by the first character

pub expr_end : (l : ℕ) → read_expr l [] ≡ Wrong []
unfolding read_expr
expr_end zero = refl
expr_end (suc l) = refl

pub expr_none : (l c : ℕ) (cs : List ℕ) → sign_of c ≡ NoSign → read_expr l (c ∷ cs) ≡ Wrong (c ∷ cs)
unfolding read_expr
expr_none zero c cs e = ap (levelled (c ∷ cs)) e
expr_none (suc l) c cs e = ap (λ (t : Sign). begins (read_expr l) (c ∷ cs) t cs) e

pub expr_deep : (c : ℕ) (cs : List ℕ) → (sign_of c ≡ NoSign → ⊥) → read_expr 0 (c ∷ cs) ≡ Deep (c ∷ cs)
unfolding read_expr
expr_deep c cs n = go (sign_of c) n
  where
    go : (s : Sign) → (s ≡ NoSign → ⊥) → levelled (c ∷ cs) s ≡ Deep (c ∷ cs)
    go (Constant b) n = refl
    go Variable n = refl
    go (Before o) n = refl
    go Bracket n = refl
    go NoSign n = absurd (n refl)

pub expr_sign : (l c : ℕ) (cs : List ℕ) (s : Sign) → sign_of c ≡ s → read_expr (suc l) (c ∷ cs) ≡ begins (read_expr l) (c ∷ cs) s cs
unfolding read_expr
expr_sign l c cs s e = ap (λ (t : Sign). begins (read_expr l) (c ∷ cs) t cs) e

pub joint_off : (f : Op2 → List ℕ → Reading) → past_joint [] f ≡ Wrong []
unfolding past_joint
joint_off f = refl

pub joint_none : (c : ℕ) (cs : List ℕ) (f : Op2 → List ℕ → Reading) → joint_of c ≡ none → past_joint (c ∷ cs) f ≡ Wrong (c ∷ cs)
unfolding past_joint
joint_none c cs f e = simp (e, past_joint)

pub joint_some : (c : ℕ) (cs : List ℕ) (f : Op2 → List ℕ → Reading) (o : Op2) → joint_of c ≡ some o → past_joint (c ∷ cs) f ≡ f o cs
unfolding past_joint
joint_some c cs f o e = simp (e, past_joint)
