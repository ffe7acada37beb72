-- The passes of the code over the entries of a run, entry by entry.
use Rattle.std.proofs.Common.{◌≡◌, ◌≢◌, ◌⊎◌, inl, inr, ⊎_elim, ℕ, zero, suc, ◌+◌, ◌<◌, ◌≤◌, Bool, true, false, cond}
use Rattle.std.proofs.Common.{◌&&◌, ◌||◌, ◌==◌, List, [], ◌∷◌, ◌++◌, length, length-append, ◌^◌, get_or, take, drop}
use Rattle.std.proofs.Common.{reverse, append_assoc, Option, Some, None, slice_get, refl, sym, ap, ◌∙◌, subst, arith}
use Rattle.std.proofs.lemmas.List.{take_more, take-append-drop, reverse-append}
use Rattle.std.proofs.lemmas.Bool.{cases_eq, ne_eqb}
use Rattle.std.proofs.lemmas.Option.{slice_get-get_or, get_or_from_slice_get, none-some, same_Some}
use Rattle.sp_base.proofs.Facts.{is_or_false}
use Rattle.sp_journal.specs.declared.entry.Birth.{Birth}
use Rattle.sp_journal.specs.declared.entry.Entry.{Entry}
use Rattle.sp_journal.specs.declared.entry.Event.{Event}
use Rattle.sp_journal.specs.declared.entry.Event.TheVariants as event
use Rattle.sp_journal.specs.Maps.{at_key}
use Rattle.sp_journal.specs.Births.{Births, first_births, births, births_from, births_after_entry, births_after_event}
use Rattle.sp_journal.specs.Births.{CanFollow}
use Rattle.sp_journal.specs.Births.{GivesNumbers, NameableFrom}
use Rattle.sp_journal.proofs.Facts.{here, equal_of_test}
use Rattle.sp_journal.proofs.BirthLaws.{Lawful, lawful, processes_grow}
use Rattle.sp_journal.proofs.Walk.{left_is, more_births, can_follow, births_parts, birth_stays, any_entry}
use Rattle.sp_witness.specs.Flags.{any_flag, parent_flag, flags_to_meet, flags_before, flags, marks, lines_after}
use Rattle.sp_witness.specs.Flags.{partner_of}
use Rattle.sp_witness.specs.Passes.{lines_from, lines_of, IsFront, IsMark, AreFirstPartners, partner_flag, own_flag}
use Rattle.sp_witness.specs.Passes.{with_flag, with_partner}

lines_last : (lines : ℕ → Option ℕ) (es : List Entry) (e : Entry)
    → lines_from lines (es ++ e ∷ []) ≡ lines_after (lines_from lines es) e.process e.event
lines_last lines [] e = refl
lines_last lines (x ∷ es) e = lines_last (lines_after lines x.process x.event) es e

pub more_lines : (es : List Entry) (i : ℕ) (d : Entry) → i < length es
    → lines_of (take (i + 1) es) ≡ lines_after (lines_of (take i es)) (get_or es i d).process (get_or es i d).event
more_lines es i d l = ap lines_of (take_more es i d l) ∙ lines_last (λ c. None) (take i es) (get_or es i d)

-- one item more
last_item : {X : Type 0} (xs : List X) (x y : X) (k : ℕ) → slice_get (xs ++ x ∷ []) k ≡ Some y
    → (slice_get xs k ≡ Some y) ⊎ ((k ≡ length xs) × (y ≡ x))
last_item [] x y zero h = inr (refl, same_Some y x (sym h))
last_item [] x y (suc k) h = absurd (none-some y h)
last_item (z ∷ xs) x y zero h = inl h
last_item (z ∷ xs) x y (suc k) h = ⊎_elim (λ a. inl a) (λ b. inr (ap suc b.0, b.1)) (last_item xs x y k h)

pub more_partners : (es : List Entry) (i : ℕ) → i < length es → (partners : List (Option ℕ)) (o : Option ℕ)
    → AreFirstPartners i es partners
    → o ≡ partner_of (lines_of (take i es)) (get_or es i any_entry).event
    → AreFirstPartners (i + 1) es (partners ++ o ∷ [])
more_partners es i l partners o h is = (
  let a = h.0 in simp length-append (omega (arith, a)),
  λ k e x at got. ⊎_elim
      (λ (old : slice_get partners k ≡ Some x). h.1 k e x at old)
      (λ (new : (k ≡ length partners) × (x ≡ o)).
      let n : k ≡ i = new.0 ∙ h.0 in
      let its : get_or es i any_entry ≡ e =
      get_or_from_slice_get es i e any_entry (subst (λ m. slice_get es m ≡ Some e) n at) in
      new.1 ∙ is ∙ (λ j. partner_of (lines_of (take (sym n j) es)) (its j).event))
      (last_item partners o x k got),
)

at_itself : (p : ℕ) (b : Bool) (f : ℕ → Bool) → at_key ◌==◌ p b f p ≡ b
at_itself p b f = ap (λ t. cond t b (f p)) (here p p refl)

meets_itself : (p : ℕ) (o : Option ℕ) (f : ℕ → Bool) → flags_to_meet p o f p ≡ f p || partner_flag f o
meets_itself p None f = is_or_false (f p)
meets_itself p (Some z) f = at_itself p (f p || f z) (at_key ◌==◌ z (f p || f z) f)

-- the flag of the process itself before its event
pub own_is : (s : Births) (lines : ℕ → Option ℕ) (p : ℕ) (e : Event) (f : ℕ → Bool)
    → flags_before s lines p e f p ≡ own_flag f p e s.processes (partner_of lines e) (s.birth p)
own_is s lines p (event.Fork m) f = at_itself p (f p || any_flag f s.processes m) f
own_is s lines p (event.Send c) f = meets_itself p (lines c) f
own_is s lines p (event.Receive c) f = meets_itself p (lines c) f
own_is s lines p event.End f = at_itself p (f p || parent_flag f (s.birth p)) f
own_is _ _ _ _ _ = refl

same_value : (p q : ℕ) (f : ℕ → Bool) → p == q ≡ true → f q ≡ f p
same_value p q f e = ap f (sym (equal_of_test p q e))

raised : (p q : ℕ) (w : Bool) (f : ℕ → Bool) → at_key ◌==◌ p (f p || w) f q ≡ with_flag (f p || w) p f q
raised p q w f = by (p == q) (f p) w (f q) (same_value p q f)
  where
    by : (a x w r : Bool) → (a ≡ true → r ≡ x) → cond a (x || w) r ≡ cond ((x || w) && a) true r
    by true true w r h = refl
    by true false true r h = refl
    by true false false r h = sym (h refl)
    by false true w r h = refl
    by false false true r h = refl
    by false false false r h = refl

same_flag : (p q : ℕ) (f : ℕ → Bool) → f q ≡ with_flag (f p) p f q
same_flag p q f = by (p == q) (f p) (f q) (same_value p q f)
  where
    by : (a x r : Bool) → (a ≡ true → r ≡ x) → r ≡ cond (x && a) true r
    by true true r h = h refl
    by false true r h = refl
    by a false r h = refl

met_flags : (p q : ℕ) (o : Option ℕ) (f : ℕ → Bool)
    → flags_to_meet p o f q ≡ with_partner (f p || partner_flag f o) o (with_flag (f p || partner_flag f o) p f) q
met_flags p q None f = same_flag p q f ∙ ap (λ b. with_flag b p f q) (is_or_false (f p))
met_flags p q (Some z) f = by (p == q) (z == q) (f p) (f z) (f q) (same_value p q f) (same_value z q f)
  where
    by : (a b x y r : Bool) → (a ≡ true → r ≡ x) → (b ≡ true → r ≡ y)
        → cond a (x || y) (cond b (x || y) r) ≡ cond ((x || y) && b) true (cond ((x || y) && a) true r)
    by true true true y r h k = refl
    by true false true y r h k = refl
    by true true false true r h k = refl
    by true false false true r h k = refl
    by true true false false r h k = sym (h refl)
    by true false false false r h k = sym (h refl)
    by false true true y r h k = refl
    by false true false true r h k = refl
    by false true false false r h k = sym (k refl)
    by false false true y r h k = refl
    by false false false true r h k = refl
    by false false false false r h k = refl

-- all flags before an event, by the flag of its process
pub flags_are : (s : Births) (lines : ℕ → Option ℕ) (p : ℕ) (e : Event) (f : ℕ → Bool) (q : ℕ)
    → flags_before s lines p e f q
    ≡ with_partner (flags_before s lines p e f p) (partner_of lines e) (with_flag (flags_before s lines p e f p) p f) q
flags_are s lines p (event.Fork m) f q =
    raised p q (any_flag f s.processes m) f
    ∙ ap (λ b. with_flag b p f q) (sym (at_itself p (f p || any_flag f s.processes m) f))
flags_are s lines p (event.Send c) f q =
    met_flags p q (lines c) f
    ∙ ap (λ b. with_partner b (lines c) (with_flag b p f) q) (sym (meets_itself p (lines c) f))
flags_are s lines p (event.Receive c) f q =
    met_flags p q (lines c) f
    ∙ ap (λ b. with_partner b (lines c) (with_flag b p f) q) (sym (meets_itself p (lines c) f))
flags_are s lines p event.End f q =
    raised p q (parent_flag f (s.birth p)) f
    ∙ ap (λ b. with_flag b p f q) (sym (at_itself p (f p || parent_flag f (s.birth p)) f))
flags_are _ _ p _ f q = same_flag p q f

pub raised_last : (t : Bool) (p q : ℕ) (f : ℕ → Bool) → with_flag t p f q ≡ f q || (t && (q == p))
raised_last t p q f = by t (p == q) (f q) ∙ ap (λ b. f q || (t && b)) turned
  where
    by : (t a r : Bool) → cond (t && a) true r ≡ r || (t && a)
    by true true true = refl
    by true true false = refl
    by true false true = refl
    by true false false = refl
    by false a true = refl
    by false a false = refl

    turned : p == q ≡ q == p
    turned = ⊎_elim
        (λ (e : p ≡ q). here p q e ∙ sym (here q p (sym e)))
        (λ (n : p ≢ q). ne_eqb p q n ∙ sym (ne_eqb q p (λ e. n (sym e))))
        (cases_eq p q)

module _ (earlier last : ℕ) (es : List Entry) (at : ℕ) (inside : at < length es) where
  abbrev pub this : Entry
  this = get_or es at any_entry

  -- the flags after the entry of this index, and before it
  abbrev pub flags_after : ℕ → Bool
  flags_after = flags earlier last (births (take (at + 1) es)) (lines_of (take (at + 1) es)) (at + 1) (drop (at + 1) es)

  -- the flag of the entry's process before it
  abbrev pub its_flag : Bool
  its_flag = flags_before (births (take at es)) (lines_of (take at es)) this.process this.event flags_after this.process

  next_index : suc at ≡ at + 1
  next_index = omega arith

  after_is : flags earlier last (births_after_entry (births (take at es)) this)
      (lines_after (lines_of (take at es)) this.process this.event) (suc at) (drop (at + 1) es) ≡ flags_after
  after_is = λ j. flags earlier last (sym (more_births es at any_entry inside) j)
      (sym (more_lines es at any_entry inside) j) (next_index j) (drop (at + 1) es)

  pub flags_more : (q : ℕ) → flags earlier last (births (take at es)) (lines_of (take at es)) at (drop at es) q
      ≡ flags_before (births (take at es)) (lines_of (take at es)) this.process this.event flags_after q
      || ((at == earlier) && (q == this.process))
  flags_more q =
      ap (λ xs. flags earlier last (births (take at es)) (lines_of (take at es)) at xs q)
      (left_is es at any_entry inside)
      ∙ ap (λ f. flags_before (births (take at es)) (lines_of (take at es)) this.process this.event f q
      || ((at == earlier) && (q == this.process))) after_is

  pub marks_more : marks earlier last (births (take at es)) (lines_of (take at es)) at (drop at es)
      ≡ flags_before (births (take at es)) (lines_of (take at es)) this.process this.event flags_after this.process
      ∷ marks earlier last (births (take (at + 1) es)) (lines_of (take (at + 1) es)) (at + 1) (drop (at + 1) es)
  marks_more =
      ap (marks earlier last (births (take at es)) (lines_of (take at es)) at) (left_is es at any_entry inside)
      ∙ (λ j. flags_before (births (take at es)) (lines_of (take at es)) this.process this.event (after_is j)
      this.process
      ∷ marks earlier last (sym (more_births es at any_entry inside) j) (sym (more_lines es at any_entry inside) j)
      (next_index j) (drop (at + 1) es))

  -- the mark of this entry
  pub mark_is : (f : ℕ → Bool) → ((q : ℕ) → f q ≡ flags_after q) → (first : ℕ) → first ≡ (births (take at es)).processes
      → (partner : Option ℕ) → partner ≡ partner_of (lines_of (take at es)) this.event
      → (birth : Option Birth) → birth ≡ (births (take at es)).birth this.process
      → own_flag f this.process this.event first partner birth ≡ its_flag
  mark_is f fs first fi partner pa birth bi =
      (λ j. own_flag (λ q. fs q j) this.process this.event (fi j) (pa j) (bi j))
      ∙ sym (own_is (births (take at es)) (lines_of (take at es)) this.process this.event flags_after)

  -- the flags before this entry, step by step
  pub flags_back : (mark : Bool) → mark ≡ its_flag
      → (partner : Option ℕ) → partner ≡ partner_of (lines_of (take at es)) this.event
      → (old one two new : ℕ → Bool) → ((q : ℕ) → old q ≡ flags_after q)
      → ((q : ℕ) → one q ≡ with_flag mark this.process old q)
      → ((q : ℕ) → two q ≡ with_partner mark partner one q)
      → ((q : ℕ) → new q ≡ with_flag (at == earlier) this.process two q)
      → (q : ℕ) → new q ≡ flags earlier last (births (take at es)) (lines_of (take at es)) at (drop at es) q
  flags_back mark mi partner pa old one two new h1 h2 h3 h4 q =
      h4 q ∙ raised_last (at == earlier) this.process q two
      ∙ ap (λ b. b || ((at == earlier) && (q == this.process))) two_is ∙ sym (flags_more q)
    where
      one_is : (r : ℕ) → one r ≡ with_flag its_flag this.process flags_after r
      one_is r = h2 r ∙ (λ j. with_flag (mi j) this.process (λ x. h1 x j) r)

      two_is : two q ≡ flags_before (births (take at es)) (lines_of (take at es)) this.process this.event flags_after q
      two_is =
          h3 q ∙ (λ j. with_partner (mi j) (pa j) (λ r. one_is r j) q)
          ∙ sym (flags_are (births (take at es)) (lines_of (take at es)) this.process this.event flags_after q)

  pub marked_is : (mark : Bool) → mark ≡ its_flag → IsMark earlier last es at mark
  marked_is mark is e got =
      is ∙ ap (λ (x : Entry). flags_before (births (take at es)) (lines_of (take at es)) x.process x.event flags_after
      x.process)
      (get_or_from_slice_get es at e any_entry got)

  pub this_mark : (mark : Bool) → IsMark earlier last es at mark → mark ≡ its_flag
  this_mark mark h = h this (slice_get-get_or es at any_entry inside)

-- one step back
module _ (earlier last : ℕ) (es : List Entry) (i j : ℕ) (is : i ≡ j + 1) (inside : j < length es) where
  pub first_back : (first children : ℕ) → first ≡ (births (take i es)).processes
      → ((s : Births) (p : ℕ) → (births_after_event s p (get_or es j any_entry).event).processes
      ≡ s.processes + children)
      → first ≡ (births (take j es)).processes + children
  first_back first children h k =
      h ∙ ap (λ n. (births (take n es)).processes) is
      ∙ ap (λ (s : Births). s.processes) (more_births es j any_entry inside)
      ∙ k (births (take j es)) (get_or es j any_entry).process

  pub marks_back : (items : List Bool) (mark : Bool)
      → reverse items ≡ marks earlier last (births (take i es)) (lines_of (take i es)) i (drop i es)
      → mark ≡ its_flag earlier last es j inside
      → reverse (items ++ mark ∷ []) ≡ marks earlier last (births (take j es)) (lines_of (take j es)) j (drop j es)
  marks_back items mark h m =
      reverse-append items (mark ∷ [])
      ∙ (λ k. m k ∷ (h ∙ ap (λ n. marks earlier last (births (take n es)) (lines_of (take n es)) n (drop n es)) is) k)
      ∙ sym (marks_more earlier last es j inside)

nameable_rest : (s : Births) (xs ys : List Entry) → NameableFrom s (xs ++ ys) → NameableFrom (births_from s xs) ys
nameable_rest s [] ys h = h
nameable_rest s (x ∷ xs) ys h = nameable_rest (births_after_entry s x) xs ys h.1

pub nameable_front : (s : Births) (xs ys : List Entry) → NameableFrom s (xs ++ ys) → NameableFrom s xs
nameable_front s [] ys h = tt
nameable_front s (x ∷ xs) ys h = (h.0, nameable_front (births_after_entry s x) xs ys h.1)

module _ (es : List Entry) (nameable : NameableFrom first_births es) (at : ℕ) (inside : at < length es) where
  pub follows : CanFollow (births (take at es)) (get_or es at any_entry)
  follows =
      can_follow es at any_entry inside
      (nameable_rest first_births (take at es) (drop at es)
      (subst (NameableFrom first_births) (sym (take-append-drop at es)) nameable))

  module _ (all : List Entry) (front : IsFront es all) where
    all_is : births all ≡ births_from (births (take at es)) (drop at es ++ front.0)
    all_is =
        ap births (front.1 ∙ ap (λ xs. xs ++ front.0) (sym (take-append-drop at es))
        ∙ append_assoc (take at es) (drop at es) front.0)
        ∙ births_parts first_births (take at es) (drop at es ++ front.0)

    pub there : (get_or es at any_entry).process < (births all).processes
    there =
        let a = follows.0 in
        let b = processes_grow (births (take at es)) (drop at es ++ front.0) in
        let c = ap (λ (s : Births). s.processes) all_is in
        omega arith

    pub same_birth : (births all).birth (get_or es at any_entry).process
        ≡ (births (take at es)).birth (get_or es at any_entry).process
    same_birth =
        ap (λ (s : Births). s.birth (get_or es at any_entry).process) all_is
        ∙ birth_stays (births (take at es)) (drop at es ++ front.0) (get_or es at any_entry).process follows.0

  -- there are no more than 2 ^ 32 numbers
  pub few_numbers : Lawful (births (take at es))
  few_numbers =
      lawful (take at es)
      (nameable_front first_births (take at es) (drop at es)
      (subst (NameableFrom first_births) (sym (take-append-drop at es)) nameable))

  pub children_fit : (n : ℕ) → (get_or es at any_entry).event ≡ event.Fork n
      → (births (take at es)).processes + n ≤ 2 ^ 32
  children_fit n e =
      (subst (GivesNumbers (births (take at es)) (get_or es at any_entry).process) e follows.1).0
