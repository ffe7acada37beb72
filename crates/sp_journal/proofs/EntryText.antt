-- The text of an entry has no line feed.
use Rattle.std.proofs.Common.{◌≡◌, ℕ, ◌<◌, Bool, true, ◌&&◌, nat_le, List, [], ◌∷◌, ◌++◌, refl, arith}
use Rattle.std.proofs.Common.{codes}
use Rattle.std.specs.Fmt.{decimal}
use Rattle.std.proofs.lemmas.Bool.{leb-true}
use Rattle.sp_base.specs.Faults.{fault_name}
use Rattle.sp_base.specs.Names.{name_text, channel_text}
use Rattle.sp_base.specs.declared.fault.Fault.{Fault}
use Rattle.sp_base.specs.declared.fault.Fault.TheVariants as fault
use Rattle.sp_base.proofs.Facts.{first_true, second_true}
use Rattle.sp_journal.specs.declared.entry.Way.{Way}
use Rattle.sp_journal.specs.declared.entry.Way.TheVariants as way
use Rattle.sp_journal.specs.declared.entry.Entry.{Entry}
use Rattle.sp_journal.specs.declared.entry.Event.{Event}
use Rattle.sp_journal.specs.declared.entry.Event.TheVariants as event
use Rattle.sp_journal.specs.Names.{proc_name, chan_name}
use Rattle.sp_journal.specs.Births.{Births, channel, CanFollow, GivesNumbers}
use Rattle.sp_journal.specs.Texts.{way_text, offer_text, event_text, entry_text}
use Rattle.sp_journal.proofs.SplitLaws.{AllInRange, HasNone, within_append, within_wider, without_low}
use Rattle.sp_journal.proofs.TextLaws.{digits_within, name_within, channel_within}
use Rattle.sp_journal.proofs.BirthLaws.{Lawful}

-- each byte is printed (from a blank to z)
abbrev pub in_line : List ℕ → Bool
in_line [] = true
in_line (x ∷ xs) = nat_le 32 x && (nat_le x 122 && in_line xs)

pub from_test : (xs : List ℕ) → in_line xs ≡ true → AllInRange 32 122 xs
from_test [] e = tt
from_test (x ∷ xs) e =
    let r = second_true (nat_le 32 x) (nat_le x 122 && in_line xs) e in (
      leb-true 32 x (first_true (nat_le 32 x) (nat_le x 122 && in_line xs) e),
      leb-true x 122 (first_true (nat_le x 122) (in_line xs) r),
      from_test xs (second_true (nat_le x 122) (in_line xs) r),
    )

fault_within : (f : Fault) → AllInRange 32 122 (fault_name f)
fault_within f = from_test (fault_name f) (by f)
  where
    by : (f : Fault) → in_line (fault_name f) ≡ true
    by fault.F1 = refl
    by fault.F2 = refl
    by fault.F3 = refl
    by fault.F4 = refl
    by fault.F5 = refl
    by fault.F6 = refl
    by fault.F7 = refl
    by fault.F8 = refl
    by fault.F9 = refl
    by fault.F10 = refl
    by fault.F11 = refl
    by fault.F12 = refl
    by fault.F13 = refl
    by fault.F14 = refl
    by fault.F15 = refl
    by fault.F16 = refl
    by fault.F17 = refl
    by fault.F18 = refl

way_within : (w : Way) → AllInRange 32 122 (way_text w)
way_within way.Send = from_test (codes "send") refl
way_within way.Receive = from_test (codes "receive") refl

module _ (s : Births) (lawful : Lawful s) where
  offer_within : (w : Way) (c : ℕ) → c < s.channels → AllInRange 32 122 (offer_text s w c)
  offer_within w c l = within_append 32 122 (way_text w ++ codes " ") (channel_text (chan_name (channel s c)))
      (within_append 32 122 (way_text w) (codes " ") (way_within w) (from_test (codes " ") refl))
      (within_wider 35 57 32 122 (channel_text (chan_name (channel s c))) (omega arith) (omega arith)
      (channel_within (channel s c) (lawful.small_names (s.opening c).owner (lawful.owned c l))
      (lawful.small_nth c l)))

  event_within : (p : ℕ) (e : Event) → GivesNumbers s p e → AllInRange 32 122 (event_text s e)
  event_within p (event.Fork n) g = within_append 32 122 (codes "fork ") (decimal n) (from_test (codes "fork ") refl)
      (within_wider 48 57 32 122 (decimal n) (omega arith) (omega arith) (digits_within n (let a = g.0 in omega arith)))
  event_within p event.Open g = from_test (codes "open") refl
  event_within p (event.Send c) g = offer_within way.Send c g
  event_within p (event.Receive c) g = offer_within way.Receive c g
  event_within p event.End g = from_test (codes "end") refl
  event_within p (event.Fault f) g = within_append 32 122 (codes "fault ") (fault_name f)
      (from_test (codes "fault ") refl) (fault_within f)
  event_within p event.Laid g = from_test (codes "laid") refl
  event_within p event.Pause g = from_test (codes "pause") refl

  -- the text of an entry that can come next has no line feed
  pub one_line : (e : Entry) → CanFollow s e → HasNone 10 (entry_text s e)
  one_line e h =
      let n : List ℕ = name_text (proc_name (s.name e.process)) in
      without_low 10 32 122 (entry_text s e) (omega arith)
      (within_append 32 122 (n ++ codes " ") (event_text s e.event)
      (within_append 32 122 n (codes " ") (within_wider 46 57 32 122 n (omega arith) (omega arith)
      (name_within (s.name e.process) (lawful.small_names e.process h.0))) (from_test (codes " ") refl))
      (event_within e.process e.event h.1))
