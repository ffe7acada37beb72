-- None of this belongs to what the program promises: it is for contracts between crates.
-- What a pass over statements does: it adds what stands in them, and records each one. The contracts of `walk` are
-- these, one for each part of a tree.
use Rattle.std.specs.Prelude.{◌≡◌, ℕ, false}
use Rattle.sp_tree.specs.PlainChecked as p
use Rattle.sp_tree.specs.Bare.{bare_statement, bare_statement_form, bare_statements, bare_arms}
use Rattle.sp_tree.specs.Uses.{Use, IsOther, In_stmt, In_stmts, In_arms}
use Rattle.sp_varsets.specs.declared.uses.Uses.{Uses}
use Rattle.sp_varsets.specs.declared.walk.Walk.{Walk}
use Rattle.sp_varsets.specs.AddedUses.{AddsUses}
use Rattle.sp_varsets.specs.Parts.{IsPart, IsInForm, IsInStatements, IsInArms}
use Rattle.sp_varsets.specs.Records.{RecordsStatements}

-- if the new uses are not lost, the uses that stand here were added, and these statements recorded
pub record AddsAndRecords (old new : Walk) (before after : Uses) (Here : Use → Type 0) (S : p.Statement
    → Type 0) : Type 0 where
  pub adds : AddsUses before after Here
  pub writes : after.is_lost ≡ false → RecordsStatements old new S

abbrev pub WalksStatement : Walk → Walk → Uses → Uses → p.Statement → Type 0
WalksStatement old new a b s = AddsAndRecords old new a b (In_stmt (bare_statement s)) (λ t. IsPart t s)

abbrev pub WalksForm : Walk → Walk → Uses → Uses → p.Form → Type 0
WalksForm old new a b f = AddsAndRecords old new a b (In_stmt (bare_statement_form f)) (λ t. IsInForm t f)

abbrev pub WalksStatements : Walk → Walk → Uses → Uses → p.Statements → Type 0
WalksStatements old new a b ss = AddsAndRecords old new a b (In_stmts (bare_statements ss)) (λ t. IsInStatements t ss)

abbrev pub WalksArms : Walk → Walk → Uses → Uses → p.Arms → Type 0
WalksArms old new a b choices = AddsAndRecords old new a b (In_arms (bare_arms choices)) (λ t. IsInArms t choices)

-- the element statement of a forall, without the positions of its index
abbrev pub WalksElement : Walk → Walk → Uses → Uses → ℕ → p.Statement → Type 0
WalksElement old new a b x s = AddsAndRecords old new a b (λ u. In_stmt (bare_statement s) u
    × IsOther x u) (λ t. IsPart t s)
