use Rattle.std.proofs.Common.{◌≡◌, ◌++◌, List, ℕ, Vec, Global, Result, Ok, Err, OnOk, IfOk, sym, ap, ◌∙◌, append_assoc}
use Rattle.std.proofs.Common.{append-nil, codes, take, drop}
use Rattle.std.proofs.lemmas.List.{drop_all}
use Rattle.sp_journal.specs.declared.entry.Entry.{Entry}
use Rattle.sp_journal.specs.declared.version.Version.TheVariants as version
use Rattle.sp_journal.specs.Births.{births}
use Rattle.sp_journal.specs.Texts.{entry_text, entries_text, journal_text}
use Rattle.sp_journal.proofs.Walk.{any_entry, kept_whole, still_nameable, text_more, this}
use Rattle.sp_journal.proofs.print.print_journal.Goals as goal

-- the line that was put, and what is left
put_one : (a b c whole line rest all : List ℕ) → b ≡ a ++ line → c ≡ b ++ codes "\n" → a ++ whole ≡ all
    → whole ≡ (line ++ codes "\n") ++ rest → c ++ rest ≡ all
put_one a b c whole line rest all e f g h =
    ap (λ (x : List ℕ). x ++ rest) (f ∙ ap (λ (x : List ℕ). x ++ codes "\n") e ∙ append_assoc a line (codes "\n"))
    ∙ append_assoc a (line ++ codes "\n") rest ∙ ap (λ (x : List ℕ). a ++ x) (sym h) ∙ g

-- what a writer gives at the end
finished : {A E : Type 0} (P : Type 0) (Q R : A → Type 0) (r : Result A E) → OnOk r P → IfOk r Q
    → (P → (x : A) → Q x → R x) → IfOk r R
finished P Q R (Ok x) p q f = f p x q
finished P Q R (Err e) p q f = tt

pub loop-entry-preserved : goal.loop-entry-preserved
loop-entry-preserved c =
    let es = c.items-entry-items.result.now in
    let i = c.loop-entry.entry-index in
    let (_, taken, nameable, text) = c.loop-entry.invariant in
    let line : List ℕ = entry_text (births (take i es)) (this es i c.loop-entry-test.true) in (
      c.in_ok-add.ensures.ledger,
      kept_whole es i c.loop-entry-test.true c.loop-entry.ledger.journal.entries c.add.new.self.journal.entries taken
          c.in_ok-add.ensures.added,
      still_nameable es i any_entry c.loop-entry-test.true nameable,
      λ kept.
          let feed = c.put.ensures kept in
          let entry = c.put_entry_text.ensures feed.0 in
          put_one c.loop-entry.out.items.items c.put_entry_text.new.out.items.items c.put.new.self.items.items
          (entries_text (births (take i es)) (drop i es)) line _ _
          (entry.1 ∙ ap (λ (x : List Entry). c.loop-entry.out.items.items
          ++ entry_text (births x) (this es i c.loop-entry-test.true)) taken)
          feed.1 (text entry.0) (text_more es i any_entry c.loop-entry-test.true),
    )

pub returns : goal.returns
returns c =
    let es = c.items-entry-items.result.now in
    let i = c.loop-entry.entry-index in
    let (_, _, _, text) = c.loop-entry.invariant in
    finished _ _ _ c.finish.result c.finish.ensures.kept c.finish.ensures.items
    (λ kept bytes e. ap (λ (v : Vec ℕ Global). v.items) e ∙ sym (append-nil c.loop-entry.out.items.items)
    ∙ ap (λ (xs : List ℕ). c.loop-entry.out.items.items ++ xs)
    (sym (ap (entries_text (births (take i es))) (drop_all i es c.loop-entry-test.false)))
    ∙ text kept ∙ ap (λ (xs : List Entry). journal_text version.Two (record { entries = xs }))
    c.items-entry-items.ensures)
