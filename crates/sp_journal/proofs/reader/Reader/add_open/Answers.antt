use Rattle.std.proofs.Common.{◌≡◌, ◌∙◌, ◌++◌, ◌∷◌, List, ℕ, cond, Some, refl, sym}
use Rattle.std.specs.Fmt.{decimal}
use Rattle.std.specs.Str.{bytes_eq}
use Rattle.std.specs.String.{string_bytes}
use Rattle.std.specs.HashMap.{get_by_text}
use Rattle.std.proofs.lemmas.Map.Text.{hash_map_updates_text}
use Rattle.sp_base.specs.Names.{name_text, channel_text}
use Rattle.sp_base.proofs.Facts.{on_ok}
use Rattle.sp_journal.specs.Names.{Channel, chan_name}
use Rattle.sp_journal.specs.Reader.{births_read}
use Rattle.sp_journal.proofs.TextLaws.{channel_is}
use Rattle.sp_journal.proofs.ReadingLaws.{open_reader}
use Rattle.sp_journal.proofs.reader.Reader.add_open.Goals as goal

pub returns-clause-reader : goal.returns-clause-reader
returns-clause-reader c =
    let r = c.args.self.now in
    let p = c.args.process in
    let this : Channel = record { owner = (births_read r).name p; nth = (births_read r).opens p } in
    let key : string_bytes c.in_ok-channel.channel ≡ channel_text (chan_name this) =
    c.in_ok-channel.ensures.ok ∙ (λ i. name_text (c.in_ok-name.ensures i)
    ++ 35 ∷ decimal (c.made-opens.ensures.opens i)) ∙ sym (channel_is this) in
    let found : (cs : List ℕ) → get_by_text c.insert.new.self cs
    ≡ cond (bytes_eq (channel_text (chan_name this)) cs) (Some (births_read r).channels) (get_by_text r.channels cs) =
    λ cs. hash_map_updates_text (string_bytes c.in_ok-channel.channel) r.channels c.insert.new.self _
    c.in_ok-insert.ensures.updates cs
    ∙ (λ i. cond (bytes_eq (key i) cs) (Some (c.channels-number.ensures.value i)) (get_by_text r.channels cs)) in
    on_ok c.add.result c.add.ensures.added
    (λ added. open_reader r _ p c.requires.reader c.add.ensures.ledger c.requires.next added refl found)
