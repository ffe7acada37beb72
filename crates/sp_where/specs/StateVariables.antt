-- All of this belongs to what the program promises (docs/promise.txt).
-- The variables of a process as `where` writes them: one line for each, with its value, or `away` while a child has it.
-- A process shows all variables of its own frames. Of the frames of its ancestors it shows what moved to it, and each
-- once: its ancestors show the rest.
use Rattle.std.specs.Prelude.{ℕ, suc, ◌+◌, ◌==◌, ◌&&◌, List, [], ◌∷◌, ◌++◌, Option, Some, None, Bool}
use Rattle.std.specs.Prelude.{if◌then◌else◌, slice_get, drop, codes}
use Rattle.std.specs.List.{list_any}
use Rattle.std.specs.FinMap as map
use Rattle.std.specs.Option.{option_map_or}
use Rattle.sp_tree.specs.declared.checked.Variable.{Variable}
use Rattle.sp_tree.specs.PlainChecked.{Program}
use Rattle.sp_journal.specs.Births.{Births}
use Rattle.sp_cell.specs.declared.cell.Cell.{Cell}
use Rattle.sp_cell.specs.declared.spot.Spot.{Spot}
use Rattle.sp_cell.specs.declared.spot.Address.{Address}
use Rattle.sp_cell.specs.Map.{Content, Own, Shared, Output, Away, Plain}
use Rattle.sp_code.specs.declared.code.Formal.{Formal}
use Rattle.sp_code.specs.declared.code.Formal.TheVariants as formal
use Rattle.sp_code.specs.declared.code.Layout.{Layout}
use Rattle.sp_code.specs.declared.code.Parts.{Parts}
use Rattle.sp_code.specs.Machine.{layout_of}
use Rattle.sp_code.specs.Memory.{Home, OfBlock, OfIndex, Frame, cell_at, reference_target}
use Rattle.sp_lines.specs.declared.mark.Mark.{Mark}
use Rattle.sp_where.specs.Values.{value_text}

-- what is known beside the state: the tree of the text, the names of its constants by the numbers of types, the marks
-- of its code, the code, and what the entries of the journal gave
pub record Known : Type 0 where
  pub tree : Program
  pub constants : List (List (List ℕ))
  pub marks : List Mark
  pub code : Parts
  pub births : Births

-- ---- one variable

-- its name and its value
abbrev pub value_line : Known → Variable → List Cell → List ℕ
value_line w v cs = codes "    " ++ v.name ++ codes " = " ++ value_text w.tree.kinds w.constants w.births v.kind cs
    ++ codes "\n"

-- by what stands at its spot: from this cell on its value, or nothing while a child has it
abbrev pub content_line : Known → Variable → (offset : ℕ) → Option Content → List ℕ
content_line w v o None = []
content_line w v o (Some (Own cs)) = value_line w v (drop o cs)
content_line w v o (Some (Shared cs)) = value_line w v (drop o cs)
content_line w v o (Some (Output bs)) = []
content_line w v o (Some Away) = codes "    " ++ v.name ++ codes " away\n"

abbrev pub named_line : Known → Plain → Address → Option Variable → List ℕ
named_line w m a v = option_map_or (λ v. content_line w v a.offset (map.get m.map a.spot)) v []

-- variable x of the tree, if it stands somewhere
abbrev pub variable_line : Known → Plain → ℕ → Option Address → List ℕ
variable_line w m x at = option_map_or (λ a. named_line w m a (slice_get w.tree.variables x)) at []

-- ---- the variables of a frame

-- where variable k of a frame stands: what a variable parameter stands for stands elsewhere
abbrev pub address_by : Frame → ℕ → Option Formal → Option Address
address_by f k None = Some (cell_at f.number k)
address_by f k (Some (formal.Value n)) = Some (cell_at f.number k)
address_by f k (Some (formal.Reference n)) = reference_target k f.references

-- a process's own frame: these variables of the tree, which are its variables from number k on
abbrev pub own_lines : Known → Plain → Frame → List Formal → ℕ → List ℕ → List ℕ
own_lines w m f fs k [] = []
own_lines w m f fs k (x ∷ xs) = variable_line w m x (address_by f k (slice_get fs k)) ++ own_lines w m f fs (suc k) xs

abbrev pub same_spot : Spot → Spot → Bool
same_spot s t = (s.frame == t.frame) && (s.variable == t.variable)

-- a variable of an ancestor's frame, if it is one of those that moved to the process
abbrev pub moved_line : Known → Plain → List Spot → ℕ → Address → List ℕ
moved_line w m ss x a = if list_any (same_spot a.spot) ss then variable_line w m x (Some a) else []

abbrev pub moved_lines : Known → Plain → List Spot → Frame → ℕ → List ℕ → List ℕ
moved_lines w m ss f k [] = []
moved_lines w m ss f k (x ∷ xs) = moved_line w m ss x (cell_at f.number k) ++ moved_lines w m ss f (suc k) xs

-- ---- the variables by what the frame is of: a block without a layout has none

-- the program's frame has its variables from number 2 on
abbrev pub first_variable : Home → ℕ
first_variable (OfBlock b) = if b == 0 then 2 else 0
first_variable (OfIndex x) = 0

abbrev pub own_by_layout : Known → Plain → Frame → Option Layout → List ℕ
own_by_layout w m f l = option_map_or (λ l. own_lines w m f l.formals (first_variable f.home) l.variables) l []

abbrev pub own_variables : Known → Plain → Frame → Home → List ℕ
own_variables w m f (OfBlock b) = own_by_layout w m f (layout_of w.code.layouts b)
own_variables w m f (OfIndex x) = own_lines w m f [] 0 (x ∷ [])

abbrev pub moved_variables : Known → Plain → List Spot → Frame → Home → List ℕ
moved_variables w m ss f (OfBlock b) =
    option_map_or (λ l. moved_lines w m ss f (first_variable f.home) l.variables) (layout_of w.code.layouts b) []
moved_variables w m ss f (OfIndex x) = moved_lines w m ss f 0 (x ∷ [])
