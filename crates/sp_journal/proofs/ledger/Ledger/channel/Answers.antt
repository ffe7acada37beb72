use Rattle.std.proofs.Common.{◌≡◌, ◌<◌, List, get_or, slice_get, sym, ap, ◌∙◌, subst}
use Rattle.std.proofs.lemmas.Option.{get_or_from_slice_get}
use Rattle.sp_journal.specs.declared.entry.Opening.{Opening}
use Rattle.sp_journal.specs.Names.{proc_name}
use Rattle.sp_journal.specs.Births.{births}
use Rattle.sp_journal.proofs.BirthLaws.{lawful}
use Rattle.sp_journal.proofs.ledger.Ledger.channel.Goals as goal

pub name-requires-clause-there : goal.name-requires-clause-there
name-requires-clause-there c =
    let l = c.args.self.now in
    let s = births l.journal.entries in
    let e : get_or c.items.result.now c.args.number (record { owner = 0; nth = 0 }) ≡ s.opening c.args.number =
    get_or_from_slice_get c.items.result.now c.args.number (s.opening c.args.number) (record { owner = 0; nth = 0 })
    (ap (λ (x : List Opening). slice_get x c.args.number) c.items.ensures
    ∙ c.requires.ledger.openings c.args.number c.requires.there) in
    subst (λ (x : Opening). x.owner < s.processes) (sym e)
    ((lawful l.journal.entries c.requires.ledger.nameable).owned c.args.number c.requires.there)

pub returns : goal.returns
returns c =
    let l = c.args.self.now in
    let s = births l.journal.entries in
    let e : get_or c.items.result.now c.args.number (record { owner = 0; nth = 0 }) ≡ s.opening c.args.number =
    get_or_from_slice_get c.items.result.now c.args.number (s.opening c.args.number) (record { owner = 0; nth = 0 })
    (ap (λ (x : List Opening). slice_get x c.args.number) c.items.ensures
    ∙ c.requires.ledger.openings c.args.number c.requires.there) in
    let f = c.in_ok-owner.ensures ∙ ap (λ (x : Opening). proc_name (s.name x.owner)) e in
    λ i. record { owner = f i; nth = (e i).nth }
