-- None of this belongs to what the program promises: it is for contracts between crates.
-- Code as a row of items, a line each: which can come next, with what text, and the parts with it. No public contract
-- cites these; the parts of the reader promise them to each other, so that each line is looked at once.
use Rattle.std.specs.Prelude.{◌≡◌, ℕ, ◌+◌, ◌-◌, ◌^◌, ◌<◌, List, [], ◌∷◌, ◌++◌, length, Option, Some, None, All, codes}
use Rattle.std.specs.Prelude.{decimal}
use Rattle.sp_code.specs.declared.code.ChildTable.{ChildTable}
use Rattle.sp_code.specs.declared.code.ForkTable.{ForkTable}
use Rattle.sp_code.specs.declared.code.Parts.{Parts}
use Rattle.sp_code.specs.Listing.{instr_text}
use Rattle.sp_code.specs.Sizes.{HasNumbers}
use Rattle.sp_codefile.specs.declared.item.Item.{Item}
use Rattle.sp_codefile.specs.declared.item.Item.TheVariants as item
use Rattle.sp_codefile.specs.CodeText.{layout_text, text_text, child_text, LayoutFits, ChildFits, InstrFits, IsByte}

-- how many children the last fork table has
abbrev pub last_children : List ForkTable → ℕ
last_children [] = 0
last_children (t ∷ []) = length t.children
last_children (t ∷ (u ∷ ts)) = last_children (u ∷ ts)

-- one more child of the last fork table
abbrev pub with_child : List ForkTable → ChildTable → List ForkTable
with_child [] c = []
with_child (t ∷ []) c = record { children = t.children ++ c ∷ [] } ∷ []
with_child (t ∷ (u ∷ ts)) c = t ∷ with_child (u ∷ ts) c

-- the line of the next item, without its line feed
abbrev pub item_text : Parts → Item → List ℕ
item_text p (item.Layout l) = layout_text l
item_text p (item.Text t) = text_text t
item_text p (item.Instr x) = decimal (length p.instrs) ++ codes " " ++ instr_text x
item_text p (item.Table c) = child_text (length p.forks) 0 c
item_text p (item.Child c) = child_text (length p.forks - 1) (last_children p.forks) c

-- its numbers are of their types
abbrev pub ItemFits : Item → Type 0
ItemFits (item.Layout l) = LayoutFits l
ItemFits (item.Text t) = All IsByte t
ItemFits (item.Instr x) = InstrFits x
ItemFits (item.Table c) = ChildFits c
ItemFits (item.Child c) = ChildFits c

-- it stands behind these parts, and there are no more of its kind than code may have
abbrev pub HasRoom : Parts → Item → Type 0
HasRoom p (item.Layout l) = (p.texts ≡ []) × (p.instrs ≡ []) × (p.forks ≡ []) × (length p.layouts < 1048576)
    × HasNumbers l
HasRoom p (item.Text t) = (p.instrs ≡ []) × (p.forks ≡ []) × (length p.texts < 1048576)
HasRoom p (item.Instr x) = (p.forks ≡ []) × (length p.instrs < 1048576)
HasRoom p (item.Table c) = length p.forks < 1048576
HasRoom p (item.Child c) = (0 < length p.forks) × (last_children p.forks + 1 < 2 ^ 64)

-- it can come next
abbrev pub CanFollow : Parts → Item → Type 0
CanFollow p x = HasRoom p x × ItemFits x

-- the parts with it
abbrev pub after_item : Parts → Item → Parts
after_item p (item.Layout l) = record p { layouts = p.layouts ++ l ∷ [] }
after_item p (item.Text t) = record p { texts = p.texts ++ t ∷ [] }
after_item p (item.Instr x) = record p { instrs = p.instrs ++ x ∷ [] }
after_item p (item.Table c) = record p { forks = p.forks ++ record { children = c ∷ [] } ∷ [] }
after_item p (item.Child c) = record p { forks = with_child p.forks c }

-- the line is the text of this item, which can come next, and of no other; or it is the text of none
abbrev pub IsNextItem : Parts → List ℕ → Option Item → Type 0
IsNextItem p line (Some x) = CanFollow p x × (line ≡ item_text p x)
    × ((y : Item) → CanFollow p y → line ≡ item_text p y → y ≡ x)
IsNextItem p line None = (y : Item) → CanFollow p y → line ≡ item_text p y → ⊥
