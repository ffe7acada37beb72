-- What the phases up to types answer one after the other, as one answer about the text.
use Rattle.std.proofs.Common.{◌≡◌, ℕ, List, Result, Ok, Err, inl, inr, refl, sym as back_of, ap, ◌∙◌, subst}
use Rattle.std.specs.Result.{IfOk}
use Rattle.sp_base.specs.declared.halt.Halt.{Halt}
use Rattle.sp_base.specs.declared.halt.Halt.TheVariants as halt
use Rattle.sp_base.specs.declared.halt.Refusal.{Refusal}
use Rattle.sp_tree.specs.declared.checked.Checked.{Checked}
use Rattle.sp_tree.specs.PlainNamed as n
use Rattle.sp_tree.specs.PlainSyntax as s
use Rattle.sp_tree.specs.PhaseResults.{AnswersAs}
use Rattle.sp_tree.specs.NamedOf as named
use Rattle.sp_tree.specs.Breaches.{IsTree}
use Rattle.sp_tree.specs.NameFirst.{name_resolution}
use Rattle.sp_tree.specs.PlainChecked.{Program}
use Rattle.sp_tree.specs.CheckedOf as checked
use Rattle.sp_tree.specs.PlainOf as meant
use Rattle.sp_types.specs.TypeFirst.{types_outcome}
use Rattle.sp_front.specs.Checks.{FirstBrokenUpToTypes, Checks, IsChecked, IsProgramOf, AcceptedUpToTypes}
use Rattle.sp_front.specs.Texts.{ParsesTo}

abbrev pub HandsOnHalt : Result Checked Halt → Halt → Type 0
HandsOnHalt result e = (y : Halt) × (result ≡ Err y) × (y ≡ e)

handed_on : (text : List ℕ) (result : Result Checked Halt) (e : Halt) → HandsOnHalt result e → Checks text (Err e)
    → Checks text result
handed_on text result e p h = let q : result ≡ Err e = p.1 ∙ ap Err p.2 in subst (Checks text) (back_of q) h

reading_failed : (text : List ℕ) (e : Halt) → ParsesTo text (Err e) → Checks text (Err e)
reading_failed text halt.Memory h = tt
reading_failed text (halt.Refused r) h = inl h

naming_failed : (text : List ℕ) (tree : s.Program) → IsTree text tree → (e : Halt)
    → AnswersAs named.program_of (Err e) (name_resolution tree) → Checks text (Err e)
naming_failed text tree t halt.Memory h = tt
naming_failed text tree t (halt.Refused r) h = inr (inl (tree, t, h))

pub no_tree : (text : List ℕ) (result : Result Checked Halt) (e : Halt) → HandsOnHalt result e → ParsesTo text (Err e)
    → Checks text result
no_tree text result e p h = handed_on text result e p (reading_failed text e h)

pub no_names : (text : List ℕ) (tree : s.Program) → IsTree text tree → (result : Result Checked Halt) (e : Halt)
    → HandsOnHalt result e → AnswersAs named.program_of (Err e) (name_resolution tree) → Checks text result
no_names text tree t result e p h = handed_on text result e p (naming_failed text tree t e h)

pub by_types : (text : List ℕ) (tree : s.Program) (m : n.Program) → IsTree text tree → name_resolution tree ≡ Ok m
    → (result : Result Checked Halt) → AnswersAs checked.program_of result (types_outcome m) → Checks text result
by_types text tree m t h (Ok x) k = (m, (tree, t, h), k)
by_types text tree m t h (Err halt.Memory) k = tt
by_types text tree m t h (Err (halt.Refused r)) k = inr (inr (m, (tree, t, h), k))

-- no text has both a checked tree and a broken rule
abbrev pub Apart : Type 0
Apart = (text : List ℕ) (p : Program) (r : Refusal) → IsChecked text p → FirstBrokenUpToTypes text r → ⊥

pub keeps : Apart → (text : List ℕ) (result : Result Checked Halt) → Checks text result
    → IfOk result (λ tree. AcceptedUpToTypes text)
keeps apart text (Ok tree) h = λ r b. apart text (checked.program_of tree) r h b
keeps apart text (Err e) h = tt

-- the tree in memory stands for the program of the text
pub programs : (text : List ℕ) (result : Result Checked Halt) → Checks text result
    → IfOk result (λ tree. IsProgramOf text (meant.program_of tree))
programs text (Ok tree) h = (checked.program_of tree, h, refl)
programs text (Err e) h = tt
