-- None of this belongs to what the program promises: it is for contracts between crates.
-- Code that keeps V1 to V5, said as what holds. The theorem of a turn rests on it, and it follows where no rule is
-- broken.
use Rattle.std.specs.Prelude.{◌≡◌, ℕ, ◌≤◌, List, [], ◌∷◌, Some, None, true, slice_get, length}
use Rattle.sp_code.specs.declared.instr.Instr.TheVariants as i
use Rattle.sp_code.specs.declared.code.ChildTable.{ChildTable}
use Rattle.sp_code.specs.declared.code.ForkTable.{ForkTable}
use Rattle.sp_code.specs.declared.code.Layout.{Layout}
use Rattle.sp_code.specs.declared.code.Parts.{Parts}
use Rattle.sp_code.specs.Machine.{layout_of}
use Rattle.sp_verify_rules.specs.Areas.{Area, instr_at, leads_by}
use Rattle.sp_verify_rules.specs.Shapes.{Shape, Wrong, instr_shapes, stays_within}
use Rattle.sp_verify_rules.specs.InstructionFacts.{IsSent, IsReceived}
use Rattle.sp_verify_rules.specs.NameRules.{IsLayout, LiesIn, names_there, level_fits, ends_well, names_well}
use Rattle.sp_verify_rules.specs.NameRules.{loops_well}
use Rattle.sp_verify_rules.specs.NameRules.{has_sizes, is_program, Declared, declaration_at, Names, IsChild}
use Rattle.sp_verify_rules.specs.Rules.{ComesTo, call_fits}

pub record KeepsCodeRules (c : Parts) : Type 0 where
  -- no operand is missing or of the wrong shape; no cells left are passed; a call's operands fit
  pub right : (a : Area) (p : ℕ) (ss : List Shape) → ComesTo c a p ss → instr_shapes c a (instr_at c p) p ss ≡ Wrong → ⊥
  pub within : (a : Area) (p : ℕ) (ss : List Shape) → ComesTo c a p ss → stays_within (instr_at c p) ss ≡ true
  pub fits : (a : Area) (p : ℕ) (ss : List Shape) → ComesTo c a p ss → call_fits c (instr_at c p) ss ≡ true
  -- what an instruction names is there, and each stands where it may
  pub there : (p : ℕ) → names_there c (instr_at c p) ≡ true
  pub levels : (a : Area) (p : ℕ) → LiesIn c p a → level_fits c a (instr_at c p) ≡ true
  pub ends : (a : Area) (p : ℕ) → LiesIn c p a → ends_well c a (instr_at c p) ≡ true
  pub names : (a : Area) (p : ℕ) → LiesIn c p a → names_well c a (instr_at c p) ≡ true
  pub loops : (a : Area) (p : ℕ) → LiesIn c p a → loops_well c a (instr_at c p) ≡ true
  -- blocks lead to the program, layouts have their sizes
  pub parents : (b : ℕ) (l : Layout) → layout_of c.layouts b ≡ Some l
      → leads_by (length c.layouts) c.layouts (Some l) ≡ true
  pub main : (l : Layout) × (layout_of c.layouts 0 ≡ Some l)
  pub program : (l : Layout) → layout_of c.layouts 0 ≡ Some l → is_program l ≡ true
  pub sizes : (l : Layout) → IsLayout c l → has_sizes l ≡ true
  pub small : (b : ℕ) (l : Layout) → layout_of c.layouts b ≡ Some l → (j n : ℕ) → slice_get l.sizes j ≡ Some n
      → n ≤ 4294967295
  -- a variable is declared once, and none is the input or the output
  pub real : (d : Declared) (x q : ℕ) → declaration_at c d ≡ Some (x, q) → 2 ≤ x
  pub once : (d e : Declared) (x q r : ℕ) → declaration_at c d ≡ Some (x, q) → declaration_at c e ≡ Some (x, r) → d ≡ e
  -- a table is named by one instruction
  pub one_name : (t p q : ℕ) → Names c t p → Names c t q → p ≡ q
  -- a child of a fork has no index; a forall has one child, with one
  pub forks : (p t j : ℕ) (ch : ChildTable) → instr_at c p ≡ Some (i.Fork t) → IsChild c t j ch → ch.index ≡ None
  pub foralls : (p t : ℕ) → instr_at c p ≡ Some (i.Forall t) → (tb : ForkTable) × (ch : ChildTable) × (x : ℕ)
      × (slice_get c.forks t ≡ Some tb) × (tb.children ≡ ch ∷ []) × (ch.index ≡ Some x)
  -- no instruction is in two areas
  pub apart : (p : ℕ) (a b : Area) → LiesIn c p a → LiesIn c p b → a ≡ b
  -- one length for each message type, and room where it is received
  pub lengths : (k n m : ℕ) → IsSent c k n → IsSent c k m → n ≡ m
  pub rooms : (k n m : ℕ) → IsReceived c k n → IsSent c k m → m ≤ n

-- the cells of each variable of a layout are a number of the machine, as in the memory of a code
abbrev pub FitsTypes : Parts → Type 0
FitsTypes c = (b : ℕ) (l : Layout) → layout_of c.layouts b ≡ Some l → (j n : ℕ) → slice_get l.sizes j ≡ Some n
    → n ≤ 4294967295

-- each fork table has a child, as `Code` of sp_code keeps it
abbrev pub HaveChildren : Parts → Type 0
HaveChildren c = (t : ℕ) (tb : ForkTable) → slice_get c.forks t ≡ Some tb → 1 ≤ length tb.children
