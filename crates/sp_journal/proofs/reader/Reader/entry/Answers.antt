use Rattle.std.proofs.Common.{◌≡◌, ◌∙◌, ap, List, ℕ, Some, Option}
use Rattle.std.proofs.lemmas.Option.{none-some, same_Some}
use Rattle.sp_base.specs.Names.{name_text}
use Rattle.sp_journal.specs.declared.entry.Entry.{Entry}
use Rattle.sp_journal.specs.Names.{proc_name}
use Rattle.sp_journal.specs.Births.{CanFollow}
use Rattle.sp_journal.specs.Texts.{entry_text, event_text}
use Rattle.sp_journal.specs.Splits.{first_split}
use Rattle.sp_journal.specs.declared.reader.Reader.{Reader}
use Rattle.sp_journal.specs.Reader.{IsReader, births_read}
use Rattle.sp_journal.proofs.TextLaws.{parts_first, parts_second}
use Rattle.sp_journal.proofs.ReaderLaws.{entry_split}
use Rattle.sp_journal.proofs.reader.Reader.entry.Goals as goal

-- the two parts of an entry's text
both_parts : (r : Reader) → IsReader r → (line x y : List ℕ) (e : Entry) → CanFollow (births_read r) e
    → line ≡ entry_text (births_read r) e → ◌≡◌ {A = Option (List ℕ × List ℕ)} (Some (x, y)) (first_split 32 line)
    → (x ≡ name_text (proc_name ((births_read r).name e.process))) × (y ≡ event_text (births_read r) e.event)
both_parts r i line x y e f h s =
    let g = s ∙ ap (first_split 32) h ∙ entry_split r i e f in
    (parts_first _ _ _ _ g, parts_second _ _ _ _ g)

pub returns-in_err-name : goal.returns-in_err-name
returns-in_err-name c = λ e f h. absurd (none-some _
    (c.in_err-name.ensures ∙ ap (first_split 32) h ∙ entry_split c.args.self.now c.requires e f))

pub returns-in_err-process : goal.returns-in_err-process
returns-in_err-process c = λ e f h.
    let p = both_parts c.args.self.now c.requires c.args.line.now c.in_ok-name.name.now c.in_ok-name.rest.now e f h
    c.in_ok-name.ensures in
    absurd (none-some e.process (c.in_err-process.ensures e.process f.0 p.0))

pub returns-in_err-event : goal.returns-in_err-event
returns-in_err-event c = λ e f h.
    let p = both_parts c.args.self.now c.requires c.args.line.now c.in_ok-name.name.now c.in_ok-name.rest.now e f h
    c.in_ok-name.ensures in
    absurd (none-some e.event (c.in_err-event.ensures e.process e.event f.1 p.1))

pub returns : goal.returns
returns c = λ e f h.
    let p = both_parts c.args.self.now c.requires c.args.line.now c.in_ok-name.name.now c.in_ok-name.rest.now e f h
    c.in_ok-name.ensures in
    let a = same_Some _ _ (c.in_ok-process.ensures e.process f.0 p.0) in
    let b = same_Some _ _ (c.in_ok-event.ensures e.process e.event f.1 p.1) in
    λ i. Some (record { process = a i; event = b i })
