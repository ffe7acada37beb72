-- The text of entries with a number before each line is their timeline (`numbered_entries`), since the text of an entry
-- has no line feed in it.
use Rattle.std.proofs.Common.{◌≡◌, ◌∙◌, ◌==◌, ◌+◌, ◌/◌, ◌%◌, ℕ, Bool, cond, zero, suc, true, false, not, refl}
use Rattle.std.proofs.Common.{sym, ap, List, [], ◌∷◌, ◌++◌, append_assoc, arith, ne_eqb, nat_lt, codes, decimal}
use Rattle.std.proofs.Common.{length, drop, take, ◌-◌}
use Rattle.std.specs.List.{list_all}
use Rattle.std.proofs.lemmas.Grind.{common_steps}
use Rattle.std.specs.Fmt.{digit_glyph, digits, digits_onto}
use Rattle.std.proofs.lemmas.List.Folds.{list_all-append}
use Rattle.std.proofs.lemmas.Bool.{and_from, and_parts, not-true}
use Rattle.sp_base.specs.Faults.{fault_name}
use Rattle.sp_base.specs.Names.{channel_text, name_text, pair_text, pairs_text}
use Rattle.sp_base.specs.declared.fault.Fault.{Fault}
use Rattle.sp_base.specs.declared.fault.Fault.TheVariants as fault
use Rattle.sp_base.specs.declared.name.Pair.{Pair}
use Rattle.sp_base.specs.declared.name.ProcName.{ProcName}
use Rattle.sp_base.specs.declared.name.ChanName.{ChanName}
use Rattle.sp_journal.specs.declared.entry.Event.{Event}
use Rattle.sp_journal.specs.declared.entry.Event.TheVariants as event
use Rattle.sp_journal.specs.declared.entry.Entry.{Entry}
use Rattle.sp_journal.specs.Births.{Births, births_after_entry, channel}
use Rattle.sp_journal.specs.Names.{chan_name, proc_name}
use Rattle.sp_journal.specs.Texts.{entries_text, entry_text, event_text}
use Rattle.sp_report.specs.Timeline.{numbered_lines, timeline_lines}

-- the text has no line feed
abbrev no_feed : List ℕ → Bool
no_feed xs = list_all (λ x. not (x == 10)) xs

joined : (xs ys : List ℕ) → no_feed xs ≡ true → no_feed ys ≡ true → no_feed (xs ++ ys) ≡ true
joined xs ys e f = list_all-append (λ x. not (x == 10)) xs ys ∙ and_from _ _ e f

glyph_is_none : (d : ℕ) → not (digit_glyph false d == 10) ≡ true
glyph_is_none d = go (nat_lt d 10)
  where
    go : (b : Bool) → not (cond b (48 + d) (cond false (55 + d) (87 + d)) == 10) ≡ true
    go true = ap not (ne_eqb (48 + d) 10 (omega arith))
    go false = ap not (ne_eqb (87 + d) 10 (omega arith))

digits_clean : (k n : ℕ) (acc : List ℕ) → no_feed acc ≡ true → no_feed (digits_onto k 10 false n acc) ≡ true
digits_clean zero n acc e = e
digits_clean (suc k) n acc e = go (n / 10 == 0)
    (digits_clean k (n / 10) (digit_glyph false (n % 10) ∷ acc) (and_from _ _ (glyph_is_none (n % 10)) e))
  where
    go : (b : Bool) → no_feed (digits_onto k 10 false (n / 10) (digit_glyph false (n % 10) ∷ acc)) ≡ true
        → no_feed (cond b (digit_glyph false (n % 10) ∷ acc)
        (digits_onto k 10 false (n / 10) (digit_glyph false (n % 10) ∷ acc))) ≡ true
    go true rest = and_from _ _ (glyph_is_none (n % 10)) e
    go false rest = rest

number_clean : (n : ℕ) → no_feed (decimal n) ≡ true
unfolding digits
number_clean n = digits_clean 64 n [] refl

pairs_clean : (ps : List Pair) → no_feed (pairs_text ps) ≡ true
pairs_clean [] = refl
pairs_clean (p ∷ ps) = joined (pair_text p) (pairs_text ps)
    (joined (codes "/" ++ decimal p.fork ++ codes ".") (decimal p.child)
    (joined (codes "/" ++ decimal p.fork) (codes ".")
    (joined (codes "/") (decimal p.fork) refl (number_clean p.fork)) refl) (number_clean p.child))
    (pairs_clean ps)

name_clean : (n : ProcName) → no_feed (name_text n) ≡ true
name_clean n = joined (codes "0") (pairs_text n.pairs) refl (pairs_clean n.pairs)

channel_clean : (c : ChanName) → no_feed (channel_text c) ≡ true
channel_clean c = joined (name_text c.owner ++ codes "#") (decimal c.nth)
    (joined (name_text c.owner) (codes "#") (name_clean c.owner) refl) (number_clean c.nth)

fault_clean : (f : Fault) → no_feed (fault_name f) ≡ true
fault_clean fault.F1 = refl
fault_clean _ = refl

event_clean : (s : Births) (e : Event) → no_feed (event_text s e) ≡ true
event_clean s (event.Fork n) = joined (codes "fork ") (decimal n) refl (number_clean n)
event_clean s (event.Send c) = joined (codes "send ") (channel_text (chan_name (channel s c))) refl
    (channel_clean (chan_name (channel s c)))
event_clean s (event.Receive c) = joined (codes "receive ") (channel_text (chan_name (channel s c))) refl
    (channel_clean (chan_name (channel s c)))
event_clean s (event.Fault f) = joined (codes "fault ") (fault_name f) refl (fault_clean f)
event_clean _ _ = refl

entry_clean : (s : Births) (e : Entry) → no_feed (entry_text s e) ≡ true
entry_clean s e = joined (name_text (proc_name (s.name e.process)) ++ codes " ") (event_text s e.event)
    (joined (name_text (proc_name (s.name e.process))) (codes " ") (name_clean (proc_name (s.name e.process))) refl)
    (event_clean s e.event)

-- the rest of a line, and then the lines after it
line_rest : (xs rest : List ℕ) (n : ℕ) → no_feed xs ≡ true
    → numbered_lines false n ((xs ++ codes "\n") ++ rest) ≡ (xs ++ codes "\n") ++ numbered_lines true n rest
line_rest [] rest n e = refl
line_rest (x ∷ xs) rest n e =
    let parts = and_parts (not (x == 10)) (no_feed xs) e in
    let other : (x == 10) ≡ false = not-true (x == 10) parts.0 in
    rw other (ap (λ ys. x ∷ ys) (line_rest xs rest n parts.1))

-- the text of entries with a number before each line is their timeline
pub numbered_entries : (n : ℕ) (s : Births) (es : List Entry)
    → numbered_lines true n (entries_text s es) ≡ timeline_lines n s es
numbered_entries n s [] = refl
numbered_entries n s (e ∷ es) =
    ap (λ ys. (decimal n ++ codes " ") ++ 48 ∷ ys)
    (line_rest ((pairs_text (proc_name (s.name e.process)).pairs ++ codes " ") ++ event_text s e.event)
    (entries_text (births_after_entry s e) es) (n + 1) (entry_clean s e))
    ∙ ap (λ ys. (decimal n ++ codes " ") ++ ((entry_text s e ++ codes "\n") ++ ys))
    (numbered_entries (n + 1) (births_after_entry s e) es)
    ∙ sym (append_assoc (decimal n ++ codes " ") (entry_text s e ++ codes "\n")
    (timeline_lines (n + 1) (births_after_entry s e) es))
    ∙ ap (λ ys. ys ++ timeline_lines (n + 1) (births_after_entry s e) es)
    (sym (append_assoc (decimal n ++ codes " ") (entry_text s e) (codes "\n")))

pub whole_rest : (n : ℕ) (xs : List ℕ) → take (length xs - n) (drop n xs) ≡ drop n xs
whole_rest n xs = grind (arith, common_steps)
