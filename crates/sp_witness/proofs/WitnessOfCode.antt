-- The witness of the code is the one of the definition.
use Rattle.std.proofs.Common.{◌≡◌, ◌<◌, ℕ, suc, List, [], ◌∷◌, ◌++◌, Bool, length, map, take, drop, get_or, Option}
use Rattle.std.proofs.Common.{None, slice_get, sym, ap, ◌∙◌, subst, refl}
use Rattle.std.proofs.lemmas.Option.{slice_get-get_or}
use Rattle.std.specs.Option.{IfSome}
use Rattle.std.proofs.lemmas.List.{take-append-drop}
use Rattle.sp_base.specs.declared.fault.Fault.TheVariants as fault
use Rattle.sp_journal.specs.declared.entry.Entry.{Entry}
use Rattle.sp_journal.specs.declared.entry.Event.TheVariants as event
use Rattle.sp_journal.specs.declared.entry.Journal.{Journal}
use Rattle.sp_journal.specs.Births.{Births, first_births, births_after_entry, NameableFrom}
use Rattle.sp_journal.proofs.Walk.{any_entry}
use Rattle.sp_witness.specs.Flags.{marks, lines_after}
use Rattle.sp_witness.specs.TableNumbers.{first_table, renumbered_entry, renumbered_entries, table_of, IsPlain}
use Rattle.sp_witness.specs.OccurrenceNumbers.{witness_journal}
use Rattle.sp_witness.specs.Passes.{IsFront}
use Rattle.sp_witness.proofs.Backwards.{nameable_front}

-- there is a mark for each entry
pub length-marks : (earlier last : ℕ) (s : Births) (lines : ℕ → Option ℕ) (n : ℕ) (es : List Entry)
    → length (marks earlier last s lines n es) ≡ length es
length-marks earlier last s lines n [] = refl
length-marks earlier last s lines n (e ∷ es) =
    ap suc (length-marks earlier last (births_after_entry s e) (lines_after lines e.process e.event) (suc n) es)

-- the entries before an index, of those of a journal
module _ (es : List Entry) (n : ℕ) where
  pub front_nameable : NameableFrom first_births es → NameableFrom first_births (take n es)
  front_nameable h = nameable_front first_births (take n es) (drop n es)
      (subst (NameableFrom first_births) (sym (take-append-drop n es)) h)

  pub front_of : (all : List Entry) → all ≡ es → IsFront (take n es) all
  front_of all h = (drop n es, h ∙ sym (take-append-drop n es))

-- an event of an entry that is there
pub plain_at : (es : List Entry) (i : ℕ) → i < length es → IfSome (slice_get es i) (λ e. IsPlain e.event)
    → IsPlain (get_or es i any_entry).event
plain_at es i l h = subst (λ o. IfSome o (λ (e : Entry). IsPlain e.event)) (slice_get-get_or es i any_entry l) h

-- what the last function gives is the witness
pub whole : (j : Journal) (earlier later : ℕ) (front : List Entry) (bs : List Bool) (one two : Entry) (it : Journal)
    → front ≡ take later j.entries → bs ≡ marks earlier two.process first_births (λ c. None) 0 front
    → it.entries ≡ renumbered_entries first_births first_table front bs
    ++ map (renumbered_entry (table_of first_births first_table front bs))
    (one ∷ record { process = two.process; event = event.Fault fault.F6 } ∷ [])
    → (witness_journal j earlier later).entries
    ≡ renumbered_entries first_births first_table (take later j.entries)
    (marks earlier two.process first_births (λ c. None) 0 (take later j.entries))
    ++ map (renumbered_entry (table_of first_births first_table (take later j.entries)
    (marks earlier two.process first_births (λ c. None) 0 (take later j.entries))))
    (one ∷ record { process = two.process; event = event.Fault fault.F6 } ∷ [])
    → it ≡ witness_journal j earlier later
whole j earlier later front bs one two it f b gives law =
    let b1 : bs ≡ marks earlier two.process first_births (λ c. None) 0 (take later j.entries) = b
    ∙ ap (λ xs. marks earlier two.process first_births (λ c. None) 0 xs) f in
    let e : it.entries ≡ (witness_journal j earlier later).entries =
    gives
    ∙ (λ i. renumbered_entries first_births first_table (f i) (b1 i)
    ++ map (renumbered_entry (table_of first_births first_table (f i) (b1 i)))
    (one ∷ record { process = two.process; event = event.Fault fault.F6 } ∷ []))
    ∙ sym law in
    λ i. record { entries = e i }
