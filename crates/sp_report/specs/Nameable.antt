-- None of this belongs to what the program promises: it is for contracts between crates.
-- That a journal is nameable is a fact without choices, as a ghost field of a struct has to be: the watchers keep it
-- beside their journals.
use Rattle.std.specs.Prelude.{ℕ, List, [], ◌∷◌}
use Rattle.std.specs.Coded.{×_prop, Unit-prop, le_prop}
use Rattle.sp_journal.specs.declared.entry.Event.{Event}
use Rattle.sp_journal.specs.declared.entry.Event.TheVariants as event
use Rattle.sp_journal.specs.declared.entry.Entry.{Entry}
use Rattle.sp_journal.specs.Births.{Births, GivesNumbers, NameableFrom, births_after_entry}

numbers_prop : (s : Births) (p : ℕ) (e : Event) → IsProp (GivesNumbers s p e)
numbers_prop s p (event.Fork n) = ×_prop le_prop le_prop
numbers_prop s p event.Open = ×_prop le_prop le_prop
numbers_prop s p (event.Send c) = le_prop
numbers_prop s p (event.Receive c) = le_prop
numbers_prop _ _ _ = Unit-prop

-- so for whole journals
pub nameable_prop : (s : Births) (es : List Entry) → IsProp (NameableFrom s es)
nameable_prop s [] = Unit-prop
nameable_prop s (e ∷ es) = ×_prop (×_prop le_prop (numbers_prop s e.process e.event))
    (nameable_prop (births_after_entry s e) es)
