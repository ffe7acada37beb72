-- None of this belongs to what the program promises: it is for contracts between crates.
-- What is written by the functions over trees in memory: the words of their contracts, which name the buffer before
-- and the part, and no more.
use Rattle.std.specs.Prelude.{◌≡◌, ℕ, List, [], ◌∷◌, map, Some, None}
use Rattle.sp_tree.specs.PlainChecked as c
use Rattle.sp_tree.specs.Plain.{Program}
use Rattle.sp_tree.specs.Around.{Scope as Around, OfIndex}
use Rattle.sp_code.specs.declared.code.ChildTable.{ChildTable}
use Rattle.sp_code.specs.declared.code.ForkTable.{ForkTable}
use Rattle.sp_code.specs.declared.instr.Instr.{Instr}
use Rattle.sp_code.specs.declared.code.Layout.{Layout}
use Rattle.sp_code.specs.TreeCode.{layouts_from}
use Rattle.sp_tree.specs.Bare.{bare_block}
use Rattle.sp_varsets.specs.declared.sets.Sets.{Sets}
use Rattle.sp_base.specs.Adds.{Keeps}
use Rattle.sp_generate.specs.declared.code_buffer.CodeBuffer.{CodeBuffer}
use Rattle.sp_generate.specs.declared.code_context.CodeContext.{CodeContext}
use Rattle.sp_generate.specs.declared.statement_context.StatementContext.{StatementContext}
use Rattle.sp_generate.specs.Handings.{moved_of, shared_of}
use Rattle.sp_generate.specs.Tables.{child, children}
use Rattle.sp_generate.specs.Views.{plain_program, scopes}
use Rattle.sp_generate.specs.CodeBuffers as w

-- what a buffer has
abbrev pub written : CodeBuffer → w.WrittenCode
written d = record { instrs = d.instrs.items.items; forks = d.forks; texts = d.texts }

-- if the new buffer lost nothing, neither did the old one, and the new one has this
abbrev pub Wrote : CodeBuffer → CodeBuffer → w.WrittenCode → Type 0
Wrote old new after = Keeps old.instrs new.instrs (written new ≡ after)

-- at a statement: what is behind a part, where this is around it
module _ (context : StatementContext) where
  abbrev program : Program
  program = plain_program context.program.now

  abbrev moved : ℕ → List ℕ
  moved = moved_of context.sets.now

  abbrev shared : ℕ → List ℕ
  shared = shared_of context.sets.now

  abbrev around : List Around
  around = scopes context.scopes.now

  abbrev pub with_statement : CodeBuffer → c.Statement → w.WrittenCode
  with_statement d s = w.buffer_after program moved shared (written d) around s

  abbrev pub with_form : CodeBuffer → c.Form → w.WrittenCode
  with_form d form = w.buffer_after_form program moved shared (written d) around form

  abbrev pub with_all : CodeBuffer → c.Statements → w.WrittenCode
  with_all d ss = w.buffer_after_all program moved shared (written d) around ss

  abbrev pub with_children : CodeBuffer → c.Statements → w.WrittenCode
  with_children d ss = w.buffer_after_children program moved shared (written d) around ss

  abbrev pub with_arms : CodeBuffer → c.Arms → (end : ℕ) → w.WrittenCode
  with_arms d arms end = w.buffer_after_arms program moved shared (written d) around arms end

  abbrev pub with_branch : CodeBuffer → c.Statement → (beyond : ℕ) → w.WrittenCode
  with_branch d s beyond = w.buffer_after_branch program moved shared (written d) around s beyond

  abbrev pub with_passed : CodeBuffer → c.Statement → w.WrittenCode
  with_passed d s = w.buffer_after_passed program moved shared (written d) around s

  abbrev pub with_loop : CodeBuffer → c.Statement → (ℕ → Instr) → Instr → w.WrittenCode
  with_loop d s leave again = w.buffer_after_loop program moved shared (written d) around s leave again

  abbrev pub with_spread : CodeBuffer → (index : ℕ) → c.Statement → w.WrittenCode
  with_spread d x s = w.buffer_after_forall program moved shared (written d) around x s

  abbrev pub with_choices : CodeBuffer → c.Arms → w.WrittenCode
  with_choices d arms = w.buffer_after_case program moved shared (written d) around arms

  -- the element statement of a forall, inside the scope of its index
  abbrev pub with_inside : CodeBuffer → (index : ℕ) → c.Statement → w.WrittenCode
  with_inside d x s = w.buffer_after program moved shared (written d) (OfIndex x ∷ around) s

  -- the fork table's line for a process statement
  abbrev pub child_of : ℕ → c.Statement → ChildTable
  child_of q s = child program moved shared q None s

  -- the table of a forall
  abbrev pub index_table : (x q : ℕ) → c.Statement → ForkTable
  index_table x q s = record { children = child program moved shared q (Some x) s ∷ [] }

  abbrev pub children_of : ℕ → c.Statements → List ChildTable
  children_of q ss = children program moved shared q ss

-- a block in its own scopes, with its end behind it
abbrev pub with_block : CodeContext → Sets → CodeBuffer → ℕ → c.Block → w.WrittenCode
with_block g sets d b k = w.written_block (plain_program g) (moved_of sets) (shared_of sets) (written d) b k

abbrev pub with_blocks : CodeContext → Sets → CodeBuffer → ℕ → List c.Block → w.WrittenCode
with_blocks g sets d b ks = w.written_blocks (plain_program g) (moved_of sets) (shared_of sets) (written d) b ks

abbrev pub layouts_in : CodeContext → (b q : ℕ) → List c.Block → List Layout
layouts_in g b q ks = layouts_from (plain_program g) b q (map bare_block ks)
