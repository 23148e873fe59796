-- A deck is its variables, its initial states, its equations and its property. An accepted deck keeps the rules and limits of RULES 3 and 6.2.
use Rattle.std.specs.Prelude.{◌≡◌, List, [], ◌∷◌, ℕ, ◌+◌, ◌^◌, ◌<◌, ◌≤◌, length}
use Rattle.lists.specs.Lists.{Each, Some, Distinct}
use Rattle.sets.specs.Sets.{◌∋◌, ◌⊆◌}
use Rattle.logic.specs.Expressions.{Expr, nodes, levels, written, Plain}

-- `Vi=e`: the variable on the left and the expression on the right.
pub record Equation : Type 0 where
  pub left : ℕ
  pub right : Expr

pub record Deck : Type 0 where
  pub vars : ℕ
  pub inits : List ℕ
  pub equations : List Equation
  pub property : Expr

-- The sizes that an edition of the deck language allows.
pub record Limits : Type 0 where
  -- bytes of a text
  pub text : ℕ
  pub variables : ℕ
  pub initials : ℕ
  pub equations : ℕ
  -- nodes over all equations, and of the property
  pub equation_nodes : ℕ
  pub property_nodes : ℕ
  pub levels : ℕ
  -- states of a claim
  pub states : ℕ

-- The sizes of RULES 3.
abbrev pub base : Limits
base = record { text = 64800; variables = 64; initials = 64; equations = 256; equation_nodes = 2048; property_nodes = 128; levels = 32; states = 1024 }

-- The nodes of all right sides together.
unfoldable pub total_nodes : List Equation → ℕ
total_nodes [] = 0
total_nodes (q ∷ qs) = nodes q.right + total_nodes qs

-- The equations stand by rising variable; a variable's own follow each other.
abbrev pub Rising : List Equation → Type 0
Rising [] = Unit
Rising (q ∷ qs) = Each (λ (r : Equation). q.left ≤ r.left) qs × Rising qs

-- An equation that the deck's variables and the levels allow: `~ & +` only.
pub record Allowed (L : Limits) (vars : ℕ) (q : Equation) : Type 0 where
  pub its : vars ∋ q.left
  pub uses : written q.right ⊆ vars
  pub plain : Plain q.right
  pub shallow : levels q.right ≤ L.levels

pub record Accepted (L : Limits) (d : Deck) : Type 0 where
  pub vars_in : d.vars < 2 ^ L.variables
  pub inits-some : 1 ≤ length d.inits
  pub inits-most : length d.inits ≤ L.initials
  pub inits_distinct : Distinct d.inits
  pub inits_in : Each (λ (s : ℕ). s ⊆ d.vars) d.inits
  pub equations-most : length d.equations ≤ L.equations
  pub equations-nodes : total_nodes d.equations ≤ L.equation_nodes
  pub equations_rise : Rising d.equations
  pub equations-allowed : Each (Allowed L d.vars) d.equations
  pub equations-all : (v : ℕ) → d.vars ∋ v → Some (λ (q : Equation). q.left ≡ v) d.equations
  pub property_in : written d.property ⊆ d.vars
  pub property-nodes : nodes d.property ≤ L.property_nodes
  pub property-levels : levels d.property ≤ L.levels
