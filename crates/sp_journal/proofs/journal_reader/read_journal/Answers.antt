use Rattle.std.proofs.Common.{◌≡◌, ◌≢◌, ◌+◌, ◌∙◌, ◌++◌, ◌∷◌, [], ◌==◌, Bool, true, false, List, ℕ, length}
use Rattle.std.proofs.Common.{length-append, Some, None, Option, refl, sym, ap, subst, arith}
use Rattle.std.proofs.lemmas.Option.{none-some}
use Rattle.sp_journal.specs.declared.version.Version.{Version}
use Rattle.sp_journal.specs.declared.entry.Entry.{Entry}
use Rattle.sp_journal.specs.ReadAnswers.{first_line}
use Rattle.sp_journal.specs.Splits.{first_split}
use Rattle.sp_journal.specs.Texts.{entry_text}
use Rattle.sp_journal.specs.Births.{Births}
use Rattle.sp_journal.specs.Reader.{births_read, CanCome, IsEntryOfLine}
use Rattle.sp_journal.specs.Begun.{Begun}
use Rattle.sp_journal.proofs.Facts.{equal_of_test}
use Rattle.sp_journal.proofs.TextLaws.{parts_first}
use Rattle.sp_journal.proofs.BegunLaws.{first_joins, read_alone, bad_here, none_here, begun_on, begun_first, bad_first}
use Rattle.sp_journal.proofs.BegunLaws.{none_first, some_line}
use Rattle.sp_journal.proofs.journal_reader.read_journal.Goals as goal

-- the parts are shorter than the text
shorter : (xs a b : List ℕ) → Some (a, b) ≡ first_split 10 xs → length a + (length b + 1) ≡ length xs
shorter xs a b e =
    let f : length xs ≡ length (a ++ 10 ∷ b) = ap length (first_joins 10 xs a b (sym e)) in
    let g = length-append a (10 ∷ b) in
    omega arith

not_empty : (xs : List ℕ) (b : Bool) → b ≡ (length xs == 0) → b ≡ false → xs ≢ []
not_empty xs b e f z = true_false (sym (ap (λ (ys : List ℕ). length ys == 0) z) ∙ sym e ∙ f)
  where
    true_false : ◌≡◌ {A = Bool} true false → ⊥
    true_false g = cc

empty : (xs : List ℕ) (b : Bool) → b ≡ (length xs == 0) → b ≡ true → xs ≡ []
empty xs b e f = by xs (equal_of_test (length xs) 0 (sym e ∙ f))
  where
    by : (xs : List ℕ) → length xs ≡ 0 → xs ≡ []
    by [] h = refl
    by (x ∷ xs) h = absurd (omega arith)

no_version : (bytes first rest : List ℕ) → Some (first, rest) ≡ first_split 10 bytes
    → ((v : Version) → first ≡ first_line v → ⊥) → (v : Version) (more : List ℕ)
    → first_split 10 bytes ≡ Some (first_line v, more) → ⊥
no_version bytes first rest e n v more f = n v (parts_first _ _ _ _ (e ∙ f))

no_line : (v : Version) (s : Births) (rest : List ℕ) → None ≡ first_split 10 rest → (e : Entry) (more : List ℕ)
    → CanCome v s e → first_split 10 rest ≡ Some (entry_text s e, more) → ⊥
no_line v s rest n e more h f = none-some _ (n ∙ f)

no_next : (v : Version) (s : Births) (rest text after : List ℕ) (o : Option Entry)
    → Some (text, after) ≡ first_split 10 rest → IsEntryOfLine v s text o → o ≡ None → (e : Entry) (more : List ℕ)
    → CanCome v s e → first_split 10 rest ≡ Some (entry_text s e, more) → ⊥
no_next v s rest text after o g n z e more h f = (subst (IsEntryOfLine v s text) z n) e h (parts_first _ _ _ _ (g ∙ f))

pub returns-in_default-version_of-clause-reads : goal.returns-in_default-version_of-clause-reads
returns-in_default-version_of-clause-reads c =
    bad_first c.args.bytes.now (no_version c.args.bytes.now c.in-Some.first.now c.in-Some.rest.now c.in-Some.ensures
    c.in_default-version_of.ensures)

pub returns-in_default-version_of-clause-alone : goal.returns-in_default-version_of-clause-alone
returns-in_default-version_of-clause-alone c =
    none_first c.args.bytes.now (no_version c.args.bytes.now c.in-Some.first.now c.in-Some.rest.now c.in-Some.ensures
    c.in_default-version_of.ensures)

pub loop-rest-init : goal.loop-rest-init
loop-rest-init c =
    let bytes = c.args.bytes.now in
    let r = c.new-reader.result in
    let v = c.in-Some-version_of.version in
    let first : c.in-Some.first.now ≡ first_line v = c.in-Some-version_of.ensures in
    let begun : Begun bytes v [] c.in-Some.rest.now =
    begun_first bytes c.in-Some.first.now c.in-Some.rest.now v c.in-Some.ensures first in
    let short = shorter bytes c.in-Some.first.now c.in-Some.rest.now c.in-Some.ensures in
    let long : length c.in-Some.first.now ≡ length (first_line v) = ap length first in
    let some = some_line v in (
      c.new-reader.ensures.reader,
      subst (λ (w : Version). Begun bytes w r.ledger.journal.entries c.in-Some.rest.now)
          (sym c.new-reader.ensures.version)
          (subst (λ (es : List Entry). Begun bytes v es c.in-Some.rest.now) (sym c.new-reader.ensures.empty) begun),
      ap (λ (es : List Entry). length es + 2) (sym c.new-reader.ensures.empty),
      omega arith,
    )

pub returns-in_default-split_first-clause-reads : goal.returns-in_default-split_first-clause-reads
returns-in_default-split_first-clause-reads c =
    let r = c.loop-rest.reader in
    let rest = c.loop-rest.rest.now in
    bad_here c.args.bytes.now r.version r.ledger.journal.entries rest c.loop-rest.invariant.1 c.loop-rest.line
    c.loop-rest.invariant.2
    (not_empty rest c.is_empty.result c.is_empty.ensures c.loop-rest-test.true)
    (no_line r.version (births_read r) rest c.in_default-split_first.ensures)

pub returns-in_default-split_first-clause-alone : goal.returns-in_default-split_first-clause-alone
returns-in_default-split_first-clause-alone c =
    let r = c.loop-rest.reader in
    let rest = c.loop-rest.rest.now in
    none_here c.args.bytes.now r.version r.ledger.journal.entries rest c.loop-rest.invariant.1
    (not_empty rest c.is_empty.result c.is_empty.ensures c.loop-rest-test.true)
    (no_line r.version (births_read r) rest c.in_default-split_first.ensures)

pub returns-in_default-2-clause-reads : goal.returns-in_default-2-clause-reads
returns-in_default-2-clause-reads c =
    let r = c.loop-rest.reader in
    let rest = c.loop-rest.rest.now in
    bad_here c.args.bytes.now r.version r.ledger.journal.entries rest c.loop-rest.invariant.1 c.loop-rest.line
    c.loop-rest.invariant.2
    (not_empty rest c.is_empty.result c.is_empty.ensures c.loop-rest-test.true)
    (no_next r.version (births_read r) rest c.in-Some-split_first.text.now c.in-Some-split_first.after.now
    c.in_ok-entry.field-0 c.in-Some-split_first.ensures c.in_ok-entry.ensures c.in_default-2.is)

pub returns-in_default-2-clause-alone : goal.returns-in_default-2-clause-alone
returns-in_default-2-clause-alone c =
    let r = c.loop-rest.reader in
    let rest = c.loop-rest.rest.now in
    none_here c.args.bytes.now r.version r.ledger.journal.entries rest c.loop-rest.invariant.1
    (not_empty rest c.is_empty.result c.is_empty.ensures c.loop-rest-test.true)
    (no_next r.version (births_read r) rest c.in-Some-split_first.text.now c.in-Some-split_first.after.now
    c.in_ok-entry.field-0 c.in-Some-split_first.ensures c.in_ok-entry.ensures c.in_default-2.is)

pub loop-rest-smaller : goal.loop-rest-smaller
loop-rest-smaller c = let short = shorter c.loop-rest.rest.now c.in-Some-split_first.text.now
    c.in-Some-split_first.after.now c.in-Some-split_first.ensures in omega arith

pub loop-rest-preserved : goal.loop-rest-preserved
loop-rest-preserved c =
    let bytes = c.args.bytes.now in
    let r = c.loop-rest.reader in
    let rest = c.loop-rest.rest.now in
    let text = c.in-Some-split_first.text.now in
    let after = c.in-Some-split_first.after.now in
    let e = c.in-Some-2.entry in
    let (_, so_far, one, two) = c.loop-rest.invariant in
    let next : IsEntryOfLine r.version (births_read r) text (Some e) =
    subst (IsEntryOfLine r.version (births_read r) text) c.in-Some-2.is c.in_ok-entry.ensures in
    let short = shorter rest text after c.in-Some-split_first.ensures in
    let more : length c.add.new.self.ledger.journal.entries ≡ length (r.ledger.journal.entries ++ e ∷ []) =
    ap length c.in_ok-add.ensures.added in
    let sum = length-append r.ledger.journal.entries (e ∷ []) in (
      c.in_ok-add.ensures.reader,
      subst (λ (w : Version). Begun bytes w c.add.new.self.ledger.journal.entries after)
          (sym c.in_ok-add.ensures.version)
          (begun_on bytes r.version r.ledger.journal.entries rest so_far e text after
          c.add.new.self.ledger.journal.entries c.in-Some-split_first.ensures next c.in_ok-add.ensures.added),
      omega arith,
      omega arith,
    )

pub returns-clause-alone : goal.returns-clause-alone
returns-clause-alone c = λ v k t.
    let r = c.loop-rest.reader in
    let rest = c.loop-rest.rest.now in
    read_alone c.args.bytes.now r.version r.ledger.journal.entries rest c.loop-rest.invariant.1
    (empty rest c.is_empty.result c.is_empty.ensures c.loop-rest-test.false) v k t ∙ sym c.into_journal.ensures
