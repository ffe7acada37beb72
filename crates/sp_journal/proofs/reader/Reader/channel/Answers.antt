use Rattle.std.proofs.Common.{◌≡◌, ◌∙◌, sym, ap, subst, List, ℕ, arith}
use Rattle.std.specs.Str.{IsAscii}
use Rattle.std.specs.HashMap.{get_by_text}
use Rattle.sp_base.specs.Names.{channel_text}
use Rattle.sp_journal.specs.Names.{chan_name}
use Rattle.sp_journal.specs.Births.{channel}
use Rattle.sp_journal.specs.Reader.{births_read}
use Rattle.sp_journal.proofs.ReaderLaws.{ascii_within, channel_small}
use Rattle.sp_journal.proofs.reader.Reader.channel.Goals as goal

pub returns : goal.returns
returns c = λ n l e.
    let r = c.args.self.now in
    let text : List ℕ = channel_text (chan_name (channel (births_read r) n)) in
    let same : c.text_of.result.now ≡ c.args.name.now =
    c.text_of.ensures (subst IsAscii (sym e)
    (ascii_within 35 57 text (omega arith) (channel_small r c.requires n l))) in
    c.copied.ensures ∙ c.get.ensures.value ∙ ap (get_by_text r.channels) (same ∙ e) ∙ c.requires.channels n l
