-- How the texts of names and entries come apart, and what a reader finds by the parts.
use Rattle.std.proofs.Common.{◌≡◌, ⊎_elim, ℕ, zero, suc, ◌+◌, ◌-◌, ◌^◌, ◌<◌, ◌≤◌, List, [], ◌∷◌, Option, Some, None}
use Rattle.std.proofs.Common.{refl, sym, ap, ◌∙◌, subst, arith, codes}
use Rattle.std.specs.Fmt.{decimal}
use Rattle.std.specs.Str.{IsAscii}
use Rattle.std.specs.HashMap.{get_by_text}
use Rattle.std.proofs.lemmas.Bool.{cases_lt}
use Rattle.sp_base.specs.Names.{name_text, channel_text}
use Rattle.sp_base.specs.Faults.{fault_name}
use Rattle.sp_journal.specs.declared.entry.Entry.{Entry}
use Rattle.sp_journal.specs.declared.entry.Event.{Event}
use Rattle.sp_journal.specs.declared.entry.Event.TheVariants as event
use Rattle.sp_journal.specs.declared.reader.Reader.{Reader}
use Rattle.sp_journal.specs.Names.{Name, proc_name, chan_name}
use Rattle.sp_journal.specs.Births.{Births, channel, CanFollow}
use Rattle.sp_journal.specs.Texts.{entry_text, event_text}
use Rattle.sp_journal.specs.Splits.{first_split, last_split}
use Rattle.sp_journal.specs.Reader.{IsReader, family_text, births_read}
use Rattle.sp_journal.proofs.SplitLaws.{AllInRange}
use Rattle.sp_journal.proofs.TextLaws.{family_within, channel_within, child_split, parts_first}
use Rattle.sp_journal.proofs.TextLaws.{parts_second, none_parts}
use Rattle.sp_journal.proofs.BirthLaws.{Lawful, Born, lawful}
use Rattle.sp_journal.proofs.OneText.{split_entry}

pub ascii_within : (lo hi : ℕ) (xs : List ℕ) → hi < 128 → AllInRange lo hi xs → IsAscii xs
ascii_within lo hi [] l w i = omega arith
ascii_within lo hi (x ∷ xs) l w zero = let h = w.1 in omega arith
ascii_within lo hi (x ∷ xs) l w (suc i) = ascii_within lo hi xs l w.2 i

-- the parts of a child's name
pub record Parts (r : Reader) (q : ℕ) (x y : List ℕ) : Type 0 where
  pub first : ℕ
  pub child : ℕ
  pub found : get_by_text r.families x ≡ Some first
  pub number : y ≡ decimal child
  pub small : child < 2 ^ 32
  pub sum : first + child ≡ q
  pub ascii : IsAscii x

module _ (r : Reader) (reader : IsReader r) where
  pub laws : Lawful (births_read r)
  laws = lawful r.ledger.journal.entries reader.ledger.nameable

  module _ (q : ℕ) (there : q < (births_read r).processes) where
    of_child : (x y : List ℕ) → last_split 46 (name_text (proc_name ((births_read r).name q))) ≡ Some (x, y) → 1 ≤ q
        → Parts r q x y
    of_child x y e z =
        let b : Born (births_read r) q = laws.born q z there in
        let small : b.birth.child < 2 ^ 32 = let a = b.small_child in let f = laws.few in omega arith in
        let f : Some (family_text ((births_read r).name b.birth.parent) b.birth.fork, decimal b.birth.child)
        ≡ Some (x, y) =
        sym (child_split ((births_read r).name b.birth.parent) b.birth.fork b.birth.child small)
        ∙ sym (ap (λ (n : Name). last_split 46 (name_text (proc_name n))) b.named) ∙ e in
        let parent : b.birth.parent < (births_read r).processes = let o = b.older in omega arith in
        record {
          first = q - b.birth.child;
          child = b.birth.child;
          found = ap (get_by_text r.families) (sym (parts_first _ _ x y f))
              ∙ reader.families q b.birth there b.birth_is;
          number = sym (parts_second _ _ x y f);
          small = small;
          sum = let a = b.small_child in omega arith;
          ascii = subst IsAscii (parts_first _ _ x y f)
              (ascii_within 46 57 (family_text ((births_read r).name b.birth.parent) b.birth.fork) (omega arith)
              (family_within ((births_read r).name b.birth.parent) b.birth.fork (laws.small_names b.birth.parent parent)
              b.small_fork));
        }

    no_root : (x y : List ℕ) → last_split 46 (name_text (proc_name ((births_read r).name q))) ≡ Some (x, y) → q < 1 → ⊥
    no_root x y e z =
        let i : q ≡ 0 = omega arith in
        let n : (births_read r).name q ≡ [] = ap (births_read r).name i ∙ laws.no_name in
        none_parts x y (sym (ap (λ (n : Name). last_split 46 (name_text (proc_name n))) n) ∙ e)

    pub parts : (x y : List ℕ) → last_split 46 (name_text (proc_name ((births_read r).name q))) ≡ Some (x, y)
        → Parts r q x y
    parts x y e = ⊎_elim (λ (z : q < 1). absurd (no_root x y e z)) (λ (z : 1 ≤ q). of_child x y e z) (cases_lt q 1)

    -- a name without a point is that of the root
    pub root_only : last_split 46 (name_text (proc_name ((births_read r).name q))) ≡ None → 0 ≡ q
    root_only e = ⊎_elim
        (λ (z : q < 1). omega arith)
        (λ (z : 1 ≤ q).
        let b : Born (births_read r) q = laws.born q z there in
        let small : b.birth.child < 2 ^ 32 = let a = b.small_child in let f = laws.few in omega arith in
        absurd (none_parts _ _ (sym e ∙ ap (λ (n : Name). last_split 46 (name_text (proc_name n))) b.named
        ∙ child_split ((births_read r).name b.birth.parent) b.birth.fork b.birth.child small)))
        (cases_lt q 1)

  pub channel_small : (c : ℕ) → c < (births_read r).channels
      → AllInRange 35 57 (channel_text (chan_name (channel (births_read r) c)))
  channel_small c l = channel_within (channel (births_read r) c)
      (laws.small_names ((births_read r).opening c).owner (laws.owned c l)) (laws.small_nth c l)

  pub entry_split : (e : Entry) → CanFollow (births_read r) e
      → first_split 32 (entry_text (births_read r) e)
      ≡ Some (name_text (proc_name ((births_read r).name e.process)), event_text (births_read r) e.event)
  entry_split e h = split_entry (births_read r) laws e h

-- what an event's text is made of
abbrev pub EventTextParts : Births → Event → Option (List ℕ × List ℕ) → Type 0
EventTextParts s (event.Fork n) o = o ≡ Some (codes "fork", decimal n)
EventTextParts s (event.Send c) o = o ≡ Some (codes "send", channel_text (chan_name (channel s c)))
EventTextParts s (event.Receive c) o = o ≡ Some (codes "receive", channel_text (chan_name (channel s c)))
EventTextParts s (event.Fault f) o = o ≡ Some (codes "fault", fault_name f)
EventTextParts _ _ o = o ≡ None

pub told : (s : Births) (e : Event) → EventTextParts s e (first_split 32 (event_text s e))
told s (event.Fork n) = refl
told _ _ = refl
