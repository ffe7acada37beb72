-- A reader after one more entry.
use Rattle.std.proofs.Common.{◌≡◌, ◌≢◌, ⊎_elim, ℕ, ◌-◌, ◌^◌, ◌<◌, ◌≤◌, Bool, true, false, cond, List, [], ◌∷◌, ◌++◌}
use Rattle.std.proofs.Common.{Option, Some, refl, sym, ap, ◌∙◌, subst, arith}
use Rattle.std.specs.HashMap.{get_by_text}
use Rattle.std.specs.Str.{bytes_eq}
use Rattle.std.proofs.lemmas.Slice.Eq.{bytes_eq-Decides}
use Rattle.std.proofs.lemmas.Bool.{cases_lt}
use Rattle.std.proofs.lemmas.Option.{none-some, same_Some}
use Rattle.sp_base.specs.Names.{channel_text}
use Rattle.sp_journal.specs.declared.entry.Birth.{Birth}
use Rattle.sp_journal.specs.declared.entry.Opening.{Opening}
use Rattle.sp_journal.specs.declared.entry.Event.{Event}
use Rattle.sp_journal.specs.declared.entry.Event.TheVariants as event
use Rattle.sp_journal.specs.declared.reader.Reader.{Reader}
use Rattle.sp_journal.specs.Names.{Name, Channel, chan_name}
use Rattle.sp_journal.specs.Births.{Births, births, births_after_event, channel, CanFollow, GivesNumbers}
use Rattle.sp_journal.specs.Ledger.{IsLedger}
use Rattle.sp_journal.specs.Reader.{IsReader, family_text, births_read}
use Rattle.sp_journal.proofs.TextLaws.{family_texts_differ, channel_texts_differ}
use Rattle.sp_journal.proofs.BirthLaws.{Lawful, Born, births_last, old_name, old_birth, new_birth, old_opening}
use Rattle.sp_journal.proofs.BirthLaws.{new_opening, its_birth}
use Rattle.sp_journal.proofs.ReaderLaws.{laws}

-- the value at the text that was set, and at another one
at_same : {A : Type 0} (bs cs : List ℕ) (w v : Option A) → bs ≡ cs → cond (bytes_eq bs cs) w v ≡ w
at_same bs cs w v e = ap (λ b. cond b w v) ((bytes_eq-Decides bs cs).1 e)

at_other : {A : Type 0} (bs cs : List ℕ) (w v : Option A) → bs ≢ cs → cond (bytes_eq bs cs) w v ≡ v
at_other bs cs w v n = by (bytes_eq bs cs) (bytes_eq-Decides bs cs).0
  where
    by : (b : Bool) → (b ≡ true → bs ≡ cs) → cond b w v ≡ v
    by true h = absurd (n (h refl))
    by false h = refl

module _ (r m : Reader) (p : ℕ) (reader : IsReader r) (ledger : IsLedger m.ledger) where
  abbrev s : Births
  s = births_read r

  module _ (n : ℕ) (next : CanFollow s (record { process = p; event = event.Fork n }))
      (added : m.ledger.journal.entries ≡ r.ledger.journal.entries ++ record { process = p; event = event.Fork n } ∷ [])
      (families : (cs : List ℕ) → get_by_text m.families cs
      ≡ cond (bytes_eq (family_text (s.name p) (s.forks p)) cs) (Some s.processes) (get_by_text r.families cs))
      (channels : m.channels ≡ r.channels)
    where
      abbrev numbers : GivesNumbers s p (event.Fork n)
      numbers = next.1

      lawful : Lawful s
      lawful = laws r reader

      abbrev t : Births
      t = births_after_event s p (event.Fork n)

      now_is : births_read m ≡ t
      now_is = ap births added ∙ births_last r.ledger.journal.entries (record { process = p; event = event.Fork n })

      name_stays : (q : ℕ) → q < s.processes → t.name q ≡ s.name q
      name_stays q l = old_name s lawful p n next.0 numbers.0 numbers.1 q l

      old_family : (q : ℕ) (b : Birth) → q < s.processes → s.birth q ≡ Some b
          → get_by_text m.families (family_text (t.name b.parent) b.fork) ≡ Some (q - b.child)
      old_family q b l e = ⊎_elim
          (λ (z : q < 1). let i : q ≡ 0 = omega arith in
          absurd (none-some b (sym lawful.no_birth ∙ sym (ap s.birth i) ∙ e)))
          (λ (z : 1 ≤ q).
          let a : Born s q = lawful.born q z l in
          let same : a.birth ≡ b = same_Some _ _ (sym a.birth_is ∙ e) in
          let older : b.parent < q = subst (λ (x : Birth). x.parent < q) same a.older in
          let made : b.fork < s.forks b.parent = subst (λ (x : Birth). x.fork < s.forks x.parent) same a.made in
          let small : b.fork < 2 ^ 32 = subst (λ (x : Birth). x.fork < 2 ^ 32) same a.small_fork in
          let parent : b.parent < s.processes = omega arith in
          let differs : family_text (s.name p) (s.forks p) ≢ family_text (s.name b.parent) b.fork = λ f.
          let d = family_texts_differ (s.name p) (s.name b.parent) (s.forks p) b.fork (lawful.small_names p next.0)
          (lawful.small_names b.parent parent) numbers.1 small f in
          let i : p ≡ b.parent = lawful.one_name p b.parent next.0 parent d.0 in
          let j : s.forks p ≡ s.forks b.parent = ap s.forks i in
          let k = d.1 in
          omega arith in
          ap (λ (x : Name). get_by_text m.families (family_text x b.fork)) (name_stays b.parent parent)
          ∙ families (family_text (s.name b.parent) b.fork)
          ∙ at_other (family_text (s.name p) (s.forks p)) (family_text (s.name b.parent) b.fork) (Some s.processes)
          (get_by_text r.families (family_text (s.name b.parent) b.fork)) differs
          ∙ reader.families q b l e)
          (cases_lt q 1)

      new_family : (q : ℕ) (b : Birth) → s.processes ≤ q → its_birth s lawful p n next.0 numbers.0 numbers.1 q ≡ b
          → get_by_text m.families (family_text (t.name b.parent) b.fork) ≡ Some (q - b.child)
      new_family q b l e =
          let here : get_by_text m.families (family_text (t.name p) (s.forks p)) ≡ Some (q - (q - s.processes)) =
          ap (λ (x : Name). get_by_text m.families (family_text x (s.forks p))) (name_stays p next.0)
          ∙ families (family_text (s.name p) (s.forks p))
          ∙ at_same (family_text (s.name p) (s.forks p)) (family_text (s.name p) (s.forks p)) (Some s.processes)
          (get_by_text r.families (family_text (s.name p) (s.forks p))) refl
          ∙ ap (λ (x : ℕ). Some x) (omega arith) in
          subst (λ (x : Birth). get_by_text m.families (family_text (t.name x.parent) x.fork) ≡ Some (q - x.child)) e
          here

      fork_families : (q : ℕ) (b : Birth) → q < t.processes → t.birth q ≡ Some b
          → get_by_text m.families (family_text (t.name b.parent) b.fork) ≡ Some (q - b.child)
      fork_families q b l e = ⊎_elim
          (λ (o : q < s.processes). old_family q b o (sym (old_birth s lawful p n next.0 numbers.0 numbers.1 q o) ∙ e))
          (λ (o : s.processes ≤ q). new_family q b o
          (same_Some _ _ (sym (new_birth s lawful p n next.0 numbers.0 numbers.1 q o l) ∙ e)))
          (cases_lt q s.processes)

      fork_channels : (c : ℕ) → c < s.channels
          → get_by_text m.channels (channel_text (chan_name (channel t c))) ≡ Some c
      fork_channels c l =
          ap (λ (x : Name). get_by_text m.channels
          (channel_text (chan_name (record { owner = x; nth = (s.opening c).nth }))))
          (name_stays (s.opening c).owner (lawful.owned c l))
          ∙ ap (λ x. get_by_text x (channel_text (chan_name (channel s c)))) channels
          ∙ reader.channels c l

      pub fork_reader : IsReader m
      fork_reader = record {
        ledger = ledger;
        families = subst (λ (x : Births). (q : ℕ) (b : Birth) → q < x.processes → x.birth q ≡ Some b
            → get_by_text m.families (family_text (x.name b.parent) b.fork) ≡ Some (q - b.child)) (sym now_is)
            fork_families;
        channels = subst (λ (x : Births). (c : ℕ) → c < x.channels
            → get_by_text m.channels (channel_text (chan_name (channel x c))) ≡ Some c) (sym now_is) fork_channels;
      }

  module _ (next : CanFollow s (record { process = p; event = event.Open }))
      (added : m.ledger.journal.entries ≡ r.ledger.journal.entries ++ record { process = p; event = event.Open } ∷ [])
      (families : m.families ≡ r.families)
      (channels : (cs : List ℕ) → get_by_text m.channels cs
      ≡ cond (bytes_eq (channel_text (chan_name (record { owner = s.name p; nth = s.opens p }))) cs)
      (Some s.channels) (get_by_text r.channels cs))
    where
      abbrev its_numbers : GivesNumbers s p event.Open
      its_numbers = next.1

      then_lawful : Lawful s
      then_lawful = laws r reader

      abbrev u : Births
      u = births_after_event s p event.Open

      abbrev this : Channel
      this = record { owner = s.name p; nth = s.opens p }

      then_is : births_read m ≡ u
      then_is = ap births added ∙ births_last r.ledger.journal.entries (record { process = p; event = event.Open })

      old_channel : (c : ℕ) → c < s.channels → get_by_text m.channels (channel_text (chan_name (channel s c))) ≡ Some c
      old_channel c l =
          let differs : channel_text (chan_name this) ≢ channel_text (chan_name (channel s c)) = λ f.
          let d = channel_texts_differ this (channel s c) (then_lawful.small_names p next.0)
          (then_lawful.small_names (s.opening c).owner (then_lawful.owned c l)) its_numbers.1
          (then_lawful.small_nth c l) f in
          let i : p ≡ (s.opening c).owner = then_lawful.one_name p (s.opening c).owner next.0 (then_lawful.owned c l)
          d.0 in
          let j : s.opens p ≡ s.opens (s.opening c).owner = ap s.opens i in
          let k : s.opens p ≡ (s.opening c).nth = d.1 in
          let h : (s.opening c).nth < s.opens (s.opening c).owner = then_lawful.counted c l in
          omega arith in
          channels (channel_text (chan_name (channel s c)))
          ∙ at_other (channel_text (chan_name this)) (channel_text (chan_name (channel s c))) (Some s.channels)
          (get_by_text r.channels (channel_text (chan_name (channel s c)))) differs
          ∙ reader.channels c l

      new_channel : (c : ℕ) → c ≡ s.channels → get_by_text m.channels (channel_text (chan_name this)) ≡ Some c
      new_channel c e =
          channels (channel_text (chan_name this))
          ∙ at_same (channel_text (chan_name this)) (channel_text (chan_name this)) (Some s.channels)
          (get_by_text r.channels (channel_text (chan_name this))) refl
          ∙ ap (λ (x : ℕ). Some x) (sym e)

      open_channels : (c : ℕ) → c < u.channels
          → get_by_text m.channels (channel_text (chan_name (channel u c))) ≡ Some c
      open_channels c l = ⊎_elim
          (λ (o : c < s.channels).
          ap (λ (x : Opening). get_by_text m.channels
          (channel_text (chan_name (record { owner = s.name x.owner; nth = x.nth }))))
          (old_opening s then_lawful p next.0 its_numbers.0 its_numbers.1 c o)
          ∙ old_channel c o)
          (λ (o : s.channels ≤ c).
          ap (λ (x : Opening). get_by_text m.channels
          (channel_text (chan_name (record { owner = s.name x.owner; nth = x.nth }))))
          (new_opening s then_lawful p next.0 its_numbers.0 its_numbers.1 c o l)
          ∙ new_channel c (omega arith))
          (cases_lt c s.channels)

      open_families : (q : ℕ) (b : Birth) → q < s.processes → s.birth q ≡ Some b
          → get_by_text m.families (family_text (s.name b.parent) b.fork) ≡ Some (q - b.child)
      open_families q b l e = ap (λ x. get_by_text x (family_text (s.name b.parent) b.fork)) families
          ∙ reader.families q b l e

      pub open_reader : IsReader m
      open_reader = record {
        ledger = ledger;
        families = subst (λ (x : Births). (q : ℕ) (b : Birth) → q < x.processes → x.birth q ≡ Some b
            → get_by_text m.families (family_text (x.name b.parent) b.fork) ≡ Some (q - b.child)) (sym then_is)
            open_families;
        channels = subst (λ (x : Births). (c : ℕ) → c < x.channels
            → get_by_text m.channels (channel_text (chan_name (channel x c))) ≡ Some c) (sym then_is) open_channels;
      }

  module _ (e : Event) (gives : births_after_event s p e ≡ s)
      (added : m.ledger.journal.entries ≡ r.ledger.journal.entries ++ record { process = p; event = e } ∷ [])
      (families : m.families ≡ r.families) (channels : m.channels ≡ r.channels)
    where
      stays : births_read m ≡ s
      stays = ap births added ∙ births_last r.ledger.journal.entries (record { process = p; event = e }) ∙ gives

      pub other_reader : IsReader m
      other_reader = record {
        ledger = ledger;
        families = subst (λ (x : Births). (q : ℕ) (b : Birth) → q < x.processes → x.birth q ≡ Some b
            → get_by_text m.families (family_text (x.name b.parent) b.fork) ≡ Some (q - b.child)) (sym stays)
            (λ q b l f. ap (λ x. get_by_text x (family_text (s.name b.parent) b.fork)) families
            ∙ reader.families q b l f);
        channels = subst (λ (x : Births). (c : ℕ) → c < x.channels
            → get_by_text m.channels (channel_text (chan_name (channel x c))) ≡ Some c) (sym stays)
            (λ c l. ap (λ x. get_by_text x (channel_text (chan_name (channel s c)))) channels ∙ reader.channels c l);
      }
