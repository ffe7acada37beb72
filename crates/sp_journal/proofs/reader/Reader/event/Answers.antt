use Rattle.std.proofs.Common.{◌≡◌, ◌<◌, ◌^◌, ◌∙◌, sym, ap, subst, List, ℕ, arith, Some, Option, codes, decimal}
use Rattle.std.proofs.lemmas.Option.{none-some}
use Rattle.sp_base.specs.Faults.{fault_name}
use Rattle.sp_base.specs.Names.{channel_text}
use Rattle.sp_base.specs.declared.fault.Fault.{Fault}
use Rattle.sp_journal.specs.declared.entry.Event.{Event}
use Rattle.sp_journal.specs.declared.entry.Event.TheVariants as event
use Rattle.sp_journal.specs.Names.{chan_name}
use Rattle.sp_journal.specs.Births.{Births, channel, GivesNumbers}
use Rattle.sp_journal.specs.Splits.{first_split}
use Rattle.sp_journal.specs.Reader.{births_read}
use Rattle.sp_journal.proofs.TextLaws.{parts_first, parts_second}
use Rattle.sp_journal.proofs.BirthLaws.{Lawful}
use Rattle.sp_journal.proofs.ReaderLaws.{EventTextParts, told, laws}
use Rattle.sp_journal.proofs.reader.Reader.event.Goals as goal

-- what `told` ensures
module _ (s : Births) (lawful : Lawful s) (word of : List ℕ) (o : Option Event)
    (fork : (n : ℕ) → n < 2 ^ 32 → word ≡ codes "fork" → of ≡ decimal n → o ≡ Some (event.Fork n))
    (send : (c : ℕ) → c < s.channels → word ≡ codes "send" → of ≡ channel_text (chan_name (channel s c))
    → o ≡ Some (event.Send c))
    (receive : (c : ℕ) → c < s.channels → word ≡ codes "receive" → of ≡ channel_text (chan_name (channel s c))
    → o ≡ Some (event.Receive c))
    (fault : (f : Fault) → word ≡ codes "fault" → of ≡ fault_name f → o ≡ Some (event.Fault f))
  where
    tells : (p : ℕ) (e : Event) → GivesNumbers s p e → EventTextParts s e (Some (word, of)) → o ≡ Some e
    tells p (event.Fork n) g h = fork n (let a = g.0 in let b = lawful.some in omega arith) (parts_first _ _ _ _ h)
        (parts_second _ _ _ _ h)
    tells p event.Open g h = absurd (none-some (word, of) (sym h))
    tells p (event.Send c) g h = send c g (parts_first _ _ _ _ h) (parts_second _ _ _ _ h)
    tells p (event.Receive c) g h = receive c g (parts_first _ _ _ _ h) (parts_second _ _ _ _ h)
    tells p event.End g h = absurd (none-some (word, of) (sym h))
    tells p (event.Fault f) g h = fault f (parts_first _ _ _ _ h) (parts_second _ _ _ _ h)
    tells p event.Laid g h = absurd (none-some (word, of) (sym h))
    tells p event.Pause g h = absurd (none-some (word, of) (sym h))

pub returns-in-Some : goal.returns-in-Some
returns-in-Some c = λ p e g h.
    let s = births_read c.args.self.now in
    tells s (laws c.args.self.now c.requires) c.in-Some.word.now c.in-Some.of.now c.told.result c.told.ensures.fork
    c.told.ensures.send c.told.ensures.receive c.told.ensures.fault p e g
    (subst (EventTextParts s e) (sym (c.in-Some.ensures ∙ ap (first_split 32) h)) (told s e))
