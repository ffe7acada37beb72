-- No two journals have one text.
use Rattle.std.proofs.Common.{◌≡◌, ℕ, ◌+◌, ◌<◌, List, [], ◌∷◌, Option, Some, None, refl, sym}
use Rattle.std.proofs.Common.{ap, ◌∙◌, subst, arith, append_assoc, find}
use Rattle.std.specs.Str.{bytes_eq}
use Rattle.std.proofs.lemmas.Fmt.{decimal_injective}
use Rattle.std.proofs.lemmas.Option.{none-some, same_Some}
use Rattle.sp_base.specs.Names.{name_text, channel_text}
use Rattle.sp_base.specs.Faults.{fault_name}
use Rattle.sp_base.specs.declared.fault.Fault.{Fault}
use Rattle.sp_base.specs.declared.fault.Fault.TheVariants as fault
use Rattle.sp_journal.specs.declared.entry.Entry.{Entry}
use Rattle.sp_journal.specs.declared.entry.Journal.{Journal}
use Rattle.sp_journal.specs.declared.entry.Event.{Event}
use Rattle.sp_journal.specs.declared.entry.Event.TheVariants as event
use Rattle.sp_journal.specs.declared.version.Version.{Version}
use Rattle.sp_journal.specs.Names.{proc_name, chan_name}
use Rattle.sp_journal.specs.Births.{Births, first_births, births_after_entry, channel, CanFollow, GivesNumbers}
use Rattle.sp_journal.specs.Births.{NameableFrom}
use Rattle.sp_journal.specs.Splits.{first_split, all_faults}
use Rattle.sp_journal.specs.Texts.{entry_text, entries_text, event_text, IsTextOf}
use Rattle.sp_journal.proofs.SplitLaws.{without_low, first_at}
use Rattle.sp_journal.proofs.TextLaws.{name_within, parts_first, parts_second, name_texts_differ, channel_texts_differ}
use Rattle.sp_journal.proofs.BirthLaws.{Lawful, lawful_start, lawful_after}
use Rattle.sp_journal.proofs.BegunLaws.{entry_line, line_of_version}

faults_differ : (f g : Fault) → fault_name f ≡ fault_name g → f ≡ g
faults_differ f g e = same_Some f g (sym (found f) ∙ ap read e ∙ found g)
  where
    read : List ℕ → Option Fault
    read t = find (λ h. bytes_eq (fault_name h) t) all_faults

    found : (f : Fault) → read (fault_name f) ≡ Some f
    found fault.F1 = refl
    found _ = refl

-- the first two bytes of the text of an event tell its kind
abbrev two : List ℕ → ℕ
two [] = 0
two (x ∷ []) = x
two (x ∷ (y ∷ ys)) = x + y

-- what stands after the first blank
abbrev told_of : List ℕ → List ℕ
told_of t = after (first_split 32 t)
  where
    after : Option (List ℕ × List ℕ) → List ℕ
    after None = []
    after (Some p) = p.1

module _ (s : Births) (lawful : Lawful s) where
  channels_differ : (c d : ℕ) → c < s.channels → d < s.channels
      → channel_text (chan_name (channel s c)) ≡ channel_text (chan_name (channel s d)) → c ≡ d
  channels_differ c d l h e =
      let o = lawful.owned c l in
      let p = lawful.owned d h in
      let f = channel_texts_differ (channel s c) (channel s d) (lawful.small_names _ o) (lawful.small_names _ p)
      (lawful.small_nth c l) (lawful.small_nth d h) e in
      let owner = lawful.one_name (s.opening c).owner (s.opening d).owner o p f.0 in
      lawful.one_opening c d l h (λ i. record { owner = owner i; nth = f.1 i })

  events_differ : (p q : ℕ) (e d : Event) → GivesNumbers s p e → GivesNumbers s q d → event_text s e ≡ event_text s d
      → e ≡ d
  events_differ p q (event.Fork n) (event.Fork m) g h f =
      ap event.Fork (decimal_injective n m (let a = g.0 in let b = lawful.some in omega arith)
      (let a = h.0 in let b = lawful.some in omega arith) (ap told_of f))
  events_differ p q (event.Fork n) event.Open a b e = absurd (let k : 213 ≡ 223 = ap two e in omega arith)
  events_differ p q (event.Fork n) (event.Send d) a b e = absurd (let k : 213 ≡ 216 = ap two e in omega arith)
  events_differ p q (event.Fork n) (event.Receive d) a b e = absurd (let k : 213 ≡ 215 = ap two e in omega arith)
  events_differ p q (event.Fork n) event.End a b e = absurd (let k : 213 ≡ 211 = ap two e in omega arith)
  events_differ p q (event.Fork n) (event.Fault g) a b e = absurd (let k : 213 ≡ 199 = ap two e in omega arith)
  events_differ p q (event.Fork n) event.Laid a b e = absurd (let k : 213 ≡ 205 = ap two e in omega arith)
  events_differ p q (event.Fork n) event.Pause a b e = absurd (let k : 213 ≡ 209 = ap two e in omega arith)
  events_differ p q event.Open (event.Fork m) a b e = absurd (let k : 223 ≡ 213 = ap two e in omega arith)
  events_differ p q event.Open event.Open g h f = refl
  events_differ p q event.Open (event.Send d) a b e = absurd (let k : 223 ≡ 216 = ap two e in omega arith)
  events_differ p q event.Open (event.Receive d) a b e = absurd (let k : 223 ≡ 215 = ap two e in omega arith)
  events_differ p q event.Open event.End a b e = absurd (let k : 223 ≡ 211 = ap two e in omega arith)
  events_differ p q event.Open (event.Fault g) a b e = absurd (let k : 223 ≡ 199 = ap two e in omega arith)
  events_differ p q event.Open event.Laid a b e = absurd (let k : 223 ≡ 205 = ap two e in omega arith)
  events_differ p q event.Open event.Pause a b e = absurd (let k : 223 ≡ 209 = ap two e in omega arith)
  events_differ p q (event.Send c) (event.Fork m) a b e = absurd (let k : 216 ≡ 213 = ap two e in omega arith)
  events_differ p q (event.Send c) event.Open a b e = absurd (let k : 216 ≡ 223 = ap two e in omega arith)
  events_differ p q (event.Send c) (event.Send d) g h f = ap event.Send (channels_differ c d g h (ap told_of f))
  events_differ p q (event.Send c) (event.Receive d) a b e = absurd (let k : 216 ≡ 215 = ap two e in omega arith)
  events_differ p q (event.Send c) event.End a b e = absurd (let k : 216 ≡ 211 = ap two e in omega arith)
  events_differ p q (event.Send c) (event.Fault g) a b e = absurd (let k : 216 ≡ 199 = ap two e in omega arith)
  events_differ p q (event.Send c) event.Laid a b e = absurd (let k : 216 ≡ 205 = ap two e in omega arith)
  events_differ p q (event.Send c) event.Pause a b e = absurd (let k : 216 ≡ 209 = ap two e in omega arith)
  events_differ p q (event.Receive c) (event.Fork m) a b e = absurd (let k : 215 ≡ 213 = ap two e in omega arith)
  events_differ p q (event.Receive c) event.Open a b e = absurd (let k : 215 ≡ 223 = ap two e in omega arith)
  events_differ p q (event.Receive c) (event.Send d) a b e = absurd (let k : 215 ≡ 216 = ap two e in omega arith)
  events_differ p q (event.Receive c) (event.Receive d) g h f =
      ap event.Receive (channels_differ c d g h (ap told_of f))
  events_differ p q (event.Receive c) event.End a b e = absurd (let k : 215 ≡ 211 = ap two e in omega arith)
  events_differ p q (event.Receive c) (event.Fault g) a b e = absurd (let k : 215 ≡ 199 = ap two e in omega arith)
  events_differ p q (event.Receive c) event.Laid a b e = absurd (let k : 215 ≡ 205 = ap two e in omega arith)
  events_differ p q (event.Receive c) event.Pause a b e = absurd (let k : 215 ≡ 209 = ap two e in omega arith)
  events_differ p q event.End (event.Fork m) a b e = absurd (let k : 211 ≡ 213 = ap two e in omega arith)
  events_differ p q event.End event.Open a b e = absurd (let k : 211 ≡ 223 = ap two e in omega arith)
  events_differ p q event.End (event.Send d) a b e = absurd (let k : 211 ≡ 216 = ap two e in omega arith)
  events_differ p q event.End (event.Receive d) a b e = absurd (let k : 211 ≡ 215 = ap two e in omega arith)
  events_differ p q event.End event.End g h f = refl
  events_differ p q event.End (event.Fault g) a b e = absurd (let k : 211 ≡ 199 = ap two e in omega arith)
  events_differ p q event.End event.Laid a b e = absurd (let k : 211 ≡ 205 = ap two e in omega arith)
  events_differ p q event.End event.Pause a b e = absurd (let k : 211 ≡ 209 = ap two e in omega arith)
  events_differ p q (event.Fault f) (event.Fork m) a b e = absurd (let k : 199 ≡ 213 = ap two e in omega arith)
  events_differ p q (event.Fault f) event.Open a b e = absurd (let k : 199 ≡ 223 = ap two e in omega arith)
  events_differ p q (event.Fault f) (event.Send d) a b e = absurd (let k : 199 ≡ 216 = ap two e in omega arith)
  events_differ p q (event.Fault f) (event.Receive d) a b e = absurd (let k : 199 ≡ 215 = ap two e in omega arith)
  events_differ p q (event.Fault f) event.End a b e = absurd (let k : 199 ≡ 211 = ap two e in omega arith)
  events_differ p q (event.Fault f) (event.Fault g) a b e = ap event.Fault (faults_differ f g (ap told_of e))
  events_differ p q (event.Fault f) event.Laid a b e = absurd (let k : 199 ≡ 205 = ap two e in omega arith)
  events_differ p q (event.Fault f) event.Pause a b e = absurd (let k : 199 ≡ 209 = ap two e in omega arith)
  events_differ p q event.Laid (event.Fork m) a b e = absurd (let k : 205 ≡ 213 = ap two e in omega arith)
  events_differ p q event.Laid event.Open a b e = absurd (let k : 205 ≡ 223 = ap two e in omega arith)
  events_differ p q event.Laid (event.Send d) a b e = absurd (let k : 205 ≡ 216 = ap two e in omega arith)
  events_differ p q event.Laid (event.Receive d) a b e = absurd (let k : 205 ≡ 215 = ap two e in omega arith)
  events_differ p q event.Laid event.End a b e = absurd (let k : 205 ≡ 211 = ap two e in omega arith)
  events_differ p q event.Laid (event.Fault g) a b e = absurd (let k : 205 ≡ 199 = ap two e in omega arith)
  events_differ p q event.Laid event.Laid g h f = refl
  events_differ p q event.Laid event.Pause a b e = absurd (let k : 205 ≡ 209 = ap two e in omega arith)
  events_differ p q event.Pause (event.Fork m) a b e = absurd (let k : 209 ≡ 213 = ap two e in omega arith)
  events_differ p q event.Pause event.Open a b e = absurd (let k : 209 ≡ 223 = ap two e in omega arith)
  events_differ p q event.Pause (event.Send d) a b e = absurd (let k : 209 ≡ 216 = ap two e in omega arith)
  events_differ p q event.Pause (event.Receive d) a b e = absurd (let k : 209 ≡ 215 = ap two e in omega arith)
  events_differ p q event.Pause event.End a b e = absurd (let k : 209 ≡ 211 = ap two e in omega arith)
  events_differ p q event.Pause (event.Fault g) a b e = absurd (let k : 209 ≡ 199 = ap two e in omega arith)
  events_differ p q event.Pause event.Laid a b e = absurd (let k : 209 ≡ 205 = ap two e in omega arith)
  events_differ p q event.Pause event.Pause g h f = refl

  pub split_entry : (e : Entry) → CanFollow s e
      → first_split 32 (entry_text s e) ≡ Some (name_text (proc_name (s.name e.process)), event_text s e.event)
  split_entry e h =
      let n : List ℕ = name_text (proc_name (s.name e.process)) in
      ap (first_split 32) (append_assoc n (32 ∷ []) (event_text s e.event))
      ∙ first_at 32 n (event_text s e.event)
      (without_low 32 46 57 n (omega arith) (name_within (s.name e.process) (lawful.small_names e.process h.0)))

  entries_differ : (e d : Entry) → CanFollow s e → CanFollow s d → entry_text s e ≡ entry_text s d → e ≡ d
  entries_differ e d g h f =
      let k = sym (split_entry e g) ∙ ap (first_split 32) f ∙ split_entry d h in
      let p = lawful.one_name e.process d.process g.0 h.0
      (name_texts_differ _ _ (lawful.small_names e.process g.0) (lawful.small_names d.process h.0)
      (parts_first _ _ _ _ k)) in
      let v = events_differ e.process d.process e.event d.event g.1 h.1 (parts_second _ _ _ _ k) in
      λ i. record { process = p i; event = v i }

no_entry : (s : Births) → Lawful s → (e : Entry) (es : List Entry) → CanFollow s e → [] ≡ entries_text s (e ∷ es) → ⊥
no_entry s l e es h f =
    none-some _ (ap (first_split 10) f ∙ entry_line s l e h (entries_text (births_after_entry s e) es))

-- entries that can come next and have one text
pub same_entries : (s : Births) → Lawful s → (es ds : List Entry) → NameableFrom s es → NameableFrom s ds
    → entries_text s es ≡ entries_text s ds → es ≡ ds
same_entries s l [] [] g h f = refl
same_entries s l [] (d ∷ ds) g h f = absurd (no_entry s l d ds h.0 f)
same_entries s l (e ∷ es) [] g h f = absurd (no_entry s l e es g.0 (sym f))
same_entries s l (e ∷ es) (d ∷ ds) g h f =
    let k = sym (entry_line s l e g.0 (entries_text (births_after_entry s e) es)) ∙ ap (first_split 10) f
    ∙ entry_line s l d h.0 (entries_text (births_after_entry s d) ds) in
    let one : e ≡ d = entries_differ s l e d g.0 h.0 (parts_first _ _ _ _ k) in
    let rest = same_entries (births_after_entry s e) (lawful_after s e l g.0) es ds g.1
    (subst (λ (x : Entry). NameableFrom (births_after_entry s x) ds) (sym one) h.1)
    (parts_second _ _ _ _ k ∙ ap (λ (x : Entry). entries_text (births_after_entry s x) ds) (sym one)) in
    λ i. one i ∷ rest i

-- two texts of journals, in whatever versions
pub one_journal : (v w : Version) (j k : Journal) (bytes : List ℕ) → IsTextOf v j bytes → IsTextOf w k bytes → j ≡ k
one_journal v w j k bytes t u =
    let f = sym (line_of_version v (entries_text first_births j.entries)) ∙ ap (first_split 10) (sym t.text ∙ u.text)
    ∙ line_of_version w (entries_text first_births k.entries) in
    let e = same_entries first_births lawful_start j.entries k.entries t.nameable u.nameable (parts_second _ _ _ _ f) in
    λ i. record { entries = e i }
