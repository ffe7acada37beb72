-- Reading a text on, line by line.
use Rattle.std.proofs.Common.{◌≡◌, ◌≢◌, ℕ, ◌+◌, ◌<◌, ◌==◌, Bool, true, false, cond, List, [], ◌∷◌, ◌++◌, length, Option}
use Rattle.std.proofs.Common.{Some, None, refl, sym, ap, ◌∙◌, subst, arith, append_assoc, append-nil, codes}
use Rattle.std.proofs.lemmas.Option.{none-some}
use Rattle.sp_journal.specs.declared.entry.Entry.{Entry}
use Rattle.sp_journal.specs.declared.entry.Journal.{Journal}
use Rattle.sp_journal.specs.declared.version.Version.{Version}
use Rattle.sp_journal.specs.declared.version.Version.TheVariants as version
use Rattle.sp_journal.specs.Births.{Births, first_births, births_after_entry, births_from, births, CanFollow}
use Rattle.sp_journal.specs.Texts.{entry_text, entries_text, heading, journal_text, CanHold, AreHeld, IsTextOf}
use Rattle.sp_journal.specs.Texts.{IsFirstBad, bad_heading, bad_entry}
use Rattle.sp_journal.specs.ReadAnswers.{first_line}
use Rattle.sp_journal.specs.Reader.{CanCome, IsEntryOfLine}
use Rattle.sp_journal.specs.Begun.{IsTextOfRest, Begun}
use Rattle.sp_journal.specs.Splits.{first_split, with_first}
use Rattle.sp_journal.proofs.Facts.{equal_of_test}
use Rattle.sp_journal.proofs.SplitLaws.{first_at}
use Rattle.sp_journal.proofs.TextLaws.{parts_first, parts_second, none_parts}
use Rattle.sp_journal.proofs.BirthLaws.{Lawful, lawful, births_last, nameable_last}
use Rattle.sp_journal.proofs.EntryText.{one_line}

-- a text that was cut is joined by the mark
pub first_joins : (c : ℕ) (xs a b : List ℕ) → first_split c xs ≡ Some (a, b) → xs ≡ a ++ c ∷ b
first_joins c [] a b e = absurd (none_parts a b e)
first_joins c (x ∷ xs) a b e = by (x == c) refl (first_split c xs) (λ y z g. first_joins c xs y z g) e
  where
    by : (t : Bool) → x == c ≡ t → (o : Option (List ℕ × List ℕ)) → ((y z : List ℕ) → o ≡ Some (y, z) → xs ≡ y ++ c ∷ z)
        → cond t (Some ([], xs)) (with_first x o) ≡ Some (a, b) → x ∷ xs ≡ a ++ c ∷ b
    by true f o h g = (λ i. equal_of_test x c f i ∷ xs)
        ∙ (λ i. parts_first [] xs a b g i ++ c ∷ parts_second [] xs a b g i)
    by false f None h g = absurd (none_parts a b g)
    by false f (Some p) h g = ap (λ (y : List ℕ). x ∷ y) (h p.0 p.1 refl)
        ∙ (λ i. parts_first (x ∷ p.0) p.1 a b g i ++ c ∷ parts_second (x ∷ p.0) p.1 a b g i)

line_is : (s : Births) (e : Entry) (more : List ℕ)
    → (entry_text s e ++ codes "\n") ++ more ≡ entry_text s e ++ 10 ∷ more
line_is s e more = append_assoc (entry_text s e) (codes "\n") more

pub entry_line : (s : Births) → Lawful s → (e : Entry) → CanFollow s e → (more : List ℕ)
    → first_split 10 ((entry_text s e ++ codes "\n") ++ more) ≡ Some (entry_text s e, more)
entry_line s l e h more = ap (first_split 10) (line_is s e more) ∙ first_at 10 (entry_text s e) more (one_line s l e h)

entries_last : (s : Births) (es : List Entry) (e : Entry)
    → entries_text s (es ++ e ∷ []) ≡ entries_text s es ++ (entry_text (births_from s es) e ++ codes "\n")
entries_last s [] e = append-nil (entry_text s e ++ codes "\n")
entries_last s (x ∷ es) e = ap (λ (y : List ℕ). (entry_text s x ++ codes "\n") ++ y)
    (entries_last (births_after_entry s x) es e) ∙ sym
    (append_assoc (entry_text s x ++ codes "\n") (entries_text (births_after_entry s x) es)
    (entry_text (births_from (births_after_entry s x) es) e ++ codes "\n"))

held_last : (v : Version) (es : List Entry) (e : Entry) → AreHeld v es → CanHold v e.event → AreHeld v (es ++ e ∷ [])
held_last v [] e a h = (h, tt)
held_last v (x ∷ es) e a h = (a.0, held_last v es e a.1 h)

-- with no text left no entries are
pub nothing_left : (v : Version) (s : Births) → Lawful s → (rest : List ℕ) (more : List Entry) → rest ≡ []
    → IsTextOfRest v s rest more → more ≡ []
nothing_left v s l rest [] e h = refl
nothing_left v s l rest (x ∷ more) e h =
    absurd (none_parts (entry_text s x) (entries_text (births_after_entry s x) more)
    (sym (ap (first_split 10) (sym h.text ∙ e))
    ∙ entry_line s l x h.nameable.0 (entries_text (births_after_entry s x) more)))

-- with text left there is a first entry, on the first line
pub record FirstLeft (v : Version) (s : Births) (rest : List ℕ) (more : List Entry) : Type 0 where
  pub entry : Entry
  pub others : List Entry
  pub more_is : more ≡ entry ∷ others
  pub can_come : CanCome v s entry
  pub line : first_split 10 rest ≡ Some (entry_text s entry, entries_text (births_after_entry s entry) others)
  pub left : IsTextOfRest v (births_after_entry s entry) (entries_text (births_after_entry s entry) others) others

pub first_left : (v : Version) (s : Births) → Lawful s → (rest : List ℕ) (more : List Entry) → rest ≢ []
    → IsTextOfRest v s rest more → FirstLeft v s rest more
first_left v s l rest [] n h = absurd (n h.text)
first_left v s l rest (x ∷ more) n h = record {
  entry = x;
  others = more;
  more_is = refl;
  can_come = (h.nameable.0, h.held.0);
  line = ap (first_split 10) h.text ∙ entry_line s l x h.nameable.0 (entries_text (births_after_entry s x) more);
  left = record { nameable = h.nameable.1; held = h.held.1; text = refl };
}

module _ (bytes : List ℕ) (v : Version) (es : List Entry) (rest : List ℕ) (begun : Begun bytes v es rest) where
  s_lawful : Lawful (births es)
  s_lawful = lawful es begun.whole.nameable

  pub read_alone : rest ≡ [] → (w : Version) (k : Journal) → IsTextOf w k bytes → k ≡ record { entries = es }
  read_alone e w k t =
      let (_, others, begins_so, follow) = begun.begins w k t in
      let none : others ≡ [] = nothing_left v (births es) s_lawful rest others e follow in
      let f : k.entries ≡ es = begins_so ∙ ap (λ (x : List Entry). es ++ x) none ∙ append-nil es in
      λ i. record { entries = f i }

  -- a rest that begins with no line of an entry that can come next
  pub bad_here : (n : ℕ) → n ≡ length es + 2 → rest ≢ []
      → ((e : Entry) (more : List ℕ) → CanCome v (births es) e
      → first_split 10 rest ≡ Some (entry_text (births es) e, more) → ⊥) → IsFirstBad n bytes
  bad_here n e some bad = bad_entry v (record { entries = es }) (journal_text v (record { entries = es })) rest
      begun.whole begun.joined some e
      (λ d more follows holds f. bad d more (follows, holds)
      (ap (first_split 10) f ∙ entry_line (births es) s_lawful d follows more))

  pub none_here : rest ≢ [] → ((e : Entry) (more : List ℕ) → CanCome v (births es) e
      → first_split 10 rest ≡ Some (entry_text (births es) e, more) → ⊥) → (w : Version) (k : Journal)
      → IsTextOf w k bytes → ⊥
  none_here some bad w k t =
      let (_, others, _, follow) = begun.begins w k t in
      let f = first_left v (births es) s_lawful rest others some follow in
      bad f.entry (entries_text (births_after_entry (births es) f.entry) f.others) f.can_come f.line

  -- one entry more
  pub begun_on : (e : Entry) (line after : List ℕ) (fs : List Entry) → Some (line, after) ≡ first_split 10 rest
      → IsEntryOfLine v (births es) line (Some e) → fs ≡ es ++ e ∷ [] → Begun bytes v fs after
  begun_on e line after fs f ((can_follow, holds), is_line, only) g =
      subst (λ (x : List Entry). Begun bytes v x after) (sym g) (record {
        whole = record {
          nameable = nameable_last first_births es e begun.whole.nameable can_follow;
          held = held_last v es e begun.whole.held holds;
          text = refl;
        };
        joined =
            begun.joined ∙ ap (λ (x : List ℕ). journal_text v (record { entries = es }) ++ x)
            (first_joins 10 rest line after (sym f) ∙ ap (λ (x : List ℕ). x ++ 10 ∷ after) is_line
            ∙ sym (line_is (births es) e after))
            ∙ sym (append_assoc (journal_text v (record { entries = es }))
            (entry_text (births es) e ++ codes "\n") after)
            ∙ ap (λ (x : List ℕ). x ++ after) (append_assoc (heading v) (entries_text first_births es)
            (entry_text (births es) e ++ codes "\n")
            ∙ ap (λ (x : List ℕ). heading v ++ x) (sym (entries_last first_births es e)));
        begins = λ w k t.
            let (same_version, more, begins_so, follow) = begun.begins w k t in
            let h = first_left v (births es) s_lawful rest more not_empty follow in
            let equal_of_test : Some (
              entry_text (births es) h.entry,
              entries_text (births_after_entry (births es) h.entry)
                  h.others,
            )
            ≡ Some (line, after) = sym h.line ∙ sym f in
            let entry : h.entry ≡ e = only h.entry h.can_come (sym (parts_first _ _ _ _ equal_of_test)) in
            let others : IsTextOfRest v (births_after_entry (births es) e) after h.others =
            subst (λ (x : Entry). IsTextOfRest v (births_after_entry (births es) x) after h.others) entry
            (subst (λ (x : List ℕ). IsTextOfRest v (births_after_entry (births es) h.entry) x h.others)
            (parts_second _ _ _ _ equal_of_test)
            h.left) in (
              same_version,
              h.others,
              begins_so ∙ ap (λ (x : List Entry). es ++ x) (h.more_is ∙ ap (λ (x : Entry). x ∷ h.others) entry)
                  ∙ sym (append_assoc es (e ∷ []) h.others),
              subst (λ (x : Births). IsTextOfRest v x after h.others) (sym (births_last es e)) others,
            );
      })
    where
      not_empty : rest ≢ []
      not_empty z = none-some (line, after) (sym (f ∙ ap (first_split 10) z))

pub line_of_version : (v : Version) (rest : List ℕ) → first_split 10 (heading v ++ rest) ≡ Some (first_line v, rest)
line_of_version version.One rest = refl
line_of_version version.Two rest = refl

heading_is : (v : Version) (rest : List ℕ) → first_line v ++ 10 ∷ rest ≡ heading v ++ rest
heading_is version.One rest = refl
heading_is version.Two rest = refl

last_byte : List ℕ → ℕ
last_byte [] = 0
last_byte (x ∷ []) = x
last_byte (x ∷ (y ∷ xs)) = last_byte (y ∷ xs)

two_lines : first_line version.One ≡ first_line version.Two → ⊥
unfolding last_byte
two_lines e = let f : ◌≡◌ {A = ℕ} 49 50 = ap last_byte e in omega arith

same_version : (v w : Version) → first_line v ≡ first_line w → v ≡ w
same_version version.One version.One e = refl
same_version version.One version.Two e = absurd (two_lines e)
same_version version.Two version.One e = absurd (two_lines (sym e))
same_version version.Two version.Two e = refl

pub some_line : (v : Version) → 0 < length (first_line v)
some_line version.One = omega arith
some_line version.Two = omega arith

-- the first line has been read
pub begun_first : (bytes first rest : List ℕ) (v : Version) → Some (first, rest) ≡ first_split 10 bytes
    → first ≡ first_line v → Begun bytes v [] rest
begun_first bytes first rest v f e = record {
  whole = record { nameable = tt; held = tt; text = refl };
  joined = first_joins 10 bytes first rest (sym f) ∙ ap (λ (x : List ℕ). x ++ 10 ∷ rest) e ∙ heading_is v rest
      ∙ ap (λ (x : List ℕ). x ++ rest) (sym (append-nil (heading v)));
  begins = λ w k t.
      let g : Some (first, rest) ≡ Some (first_line w, entries_text first_births k.entries) =
      f ∙ ap (first_split 10) t.text
      ∙ line_of_version w (entries_text first_births k.entries) in
      let equal_of_test : w ≡ v = same_version w v (sym (parts_first _ _ _ _ g) ∙ e) in (
        equal_of_test,
        k.entries,
        refl,
        record {
          nameable = t.nameable;
          held = subst (λ (x : Version). AreHeld x k.entries) equal_of_test t.held;
          text = parts_second _ _ _ _ g;
        },
      );
}

-- no first line
pub bad_first : (bytes : List ℕ) → ((v : Version) (rest : List ℕ) → first_split 10 bytes ≡ Some (first_line v, rest)
    → ⊥) → IsFirstBad 1 bytes
bad_first bytes bad = bad_heading refl (λ v rest e. bad v rest (ap (first_split 10) e ∙ line_of_version v rest))

pub none_first : (bytes : List ℕ) → ((v : Version) (rest : List ℕ) → first_split 10 bytes ≡ Some (first_line v, rest)
    → ⊥) → (w : Version) (k : Journal) → IsTextOf w k bytes → ⊥
none_first bytes bad w k t = bad w (entries_text first_births k.entries)
    (ap (first_split 10) t.text ∙ line_of_version w (entries_text first_births k.entries))
