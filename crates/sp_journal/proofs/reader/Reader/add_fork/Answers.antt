use Rattle.std.proofs.Common.{◌≡◌, ◌∙◌, ◌++◌, ◌∷◌, List, ℕ, cond, Some, refl}
use Rattle.std.specs.Fmt.{decimal}
use Rattle.std.specs.Str.{bytes_eq}
use Rattle.std.specs.String.{string_bytes}
use Rattle.std.specs.HashMap.{get_by_text}
use Rattle.std.proofs.lemmas.Map.Text.{hash_map_updates_text}
use Rattle.sp_base.specs.Names.{name_text}
use Rattle.sp_base.proofs.Facts.{on_ok}
use Rattle.sp_journal.specs.Reader.{family_text, births_read}
use Rattle.sp_journal.proofs.ReadingLaws.{fork_reader}
use Rattle.sp_journal.proofs.reader.Reader.add_fork.Goals as goal

pub returns-clause-reader : goal.returns-clause-reader
returns-clause-reader c =
    let r = c.args.self.now in
    let p = c.args.process in
    let key : string_bytes c.in_ok-family.family ≡ family_text ((births_read r).name p) ((births_read r).forks p) =
    c.in_ok-family.ensures.ok
    ∙ (λ i. name_text (c.in_ok-name.ensures i) ++ 47 ∷ decimal (c.made-forks.ensures.forks i)) in
    let found : (cs : List ℕ) → get_by_text c.insert.new.self cs
    ≡ cond (bytes_eq (family_text ((births_read r).name p) ((births_read r).forks p)) cs)
    (Some (births_read r).processes)
    (get_by_text r.families cs) =
    λ cs. hash_map_updates_text (string_bytes c.in_ok-family.family) r.families c.insert.new.self _
    c.in_ok-insert.ensures.updates cs
    ∙ (λ i. cond (bytes_eq (key i) cs) (Some (c.processes-first.ensures.value i)) (get_by_text r.families cs)) in
    on_ok c.add.result c.add.ensures.added
    (λ added. fork_reader r _ p c.requires.reader c.add.ensures.ledger c.args.count c.requires.next added found refl)
