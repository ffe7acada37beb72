-- The tokens so far, and that no rule is broken before them.
use Rattle.std.proofs.Common.{◌≡◌, ℕ, ◌+◌, ◌-◌, ◌<◌, ◌≤◌, false, ◌==◌, List, [], ◌∷◌, ◌++◌, length, length-take, take}
use Rattle.std.proofs.Common.{Option, Some, None, ◌⊎◌, inl, inr, refl, sym, ap, ◌∙◌, subst, arith}
use Rattle.std.proofs.lemmas.Bool.{cases_lt}
use Rattle.std.proofs.lemmas.List.{append-nil}
use Rattle.sp_base.specs.declared.place.Place.{Place}
use Rattle.sp_base.specs.declared.halt.Refusal.{Refusal}
use Rattle.sp_base.specs.declared.rule.Rule.{Rule}
use Rattle.sp_base.specs.declared.rule.Rule.TheVariants as rule
use Rattle.sp_tree.specs.declared.token.Token.{Token}
use Rattle.sp_tree.specs.declared.token.Kind.{Kind}
use Rattle.sp_tree.specs.First.{refusal_before, IsFirst}
use Rattle.sp_tree.specs.Places.{start, next_place, place_behind, place_at}
use Rattle.sp_tree.specs.Lexemes.{BraceBody, brace_ends, brace_byte, StarBody, star_ends, star_byte, Comment}
use Rattle.sp_tree.specs.Lexemes.{brace_comment, star_comment, opens_comment, Longest}
use Rattle.sp_tree.specs.Scans.{offset, Scans, nothing, blank, comment, token, BreaksHere, BreaksAlong, LongText}
use Rattle.sp_tree.specs.Scans.{BreaksLexis, IsTokens}
use Rattle.sp_tree.proofs.Earlier.{Earlier}
use Rattle.sp_tree.proofs.TokenOrder.{lexeme_length, comment_length}
use Rattle.sp_tree.proofs.RefusalOrder.{later, no_sooner, rises}
use Rattle.sp_tree.proofs.OneList.{Tail, here, there, tail_length, tail_same, lexeme_tail, one_comment, same_rest}
use Rattle.sp_tree.proofs.OneList.{blank_opens, opens, differ, not_blank}
use Rattle.sp_tree.proofs.TextParts.{scans_chain, taken_more, taken_none}
use Rattle.sp_scan.specs.Finds.{FrontItem, IsGap, blank_gap, comment_gap, FirstHere}
use Rattle.sp_scan.proofs.Along.{line_by, column_by}

-- what is left
tail_chain : {a b c : List ℕ} → Tail b a → Tail c b → Tail c a
tail_chain here y = y
tail_chain (there x) y = there (tail_chain x y)

brace_tail : {bs r : List ℕ} → BraceBody bs r → Tail r bs
brace_tail (brace_ends c h) = there here
brace_tail (brace_byte b n x) = there (brace_tail x)

star_tail : {bs r : List ℕ} → StarBody bs r → Tail r bs
star_tail (star_ends a b h i) = there (there here)
star_tail (star_byte b n x) = there (star_tail x)

comment_tail : {bs r : List ℕ} → Comment bs r → Tail r bs
comment_tail (brace_comment b h x) = there (brace_tail x)
comment_tail (star_comment a b h i x) = there (there (star_tail x))

gap_tail : {bs r : List ℕ} → IsGap bs r → Tail r bs
gap_tail (blank_gap b h) = there here
gap_tail (comment_gap c) = comment_tail c

pub gap_shorter : {bs r : List ℕ} → IsGap bs r → length r < length bs
gap_shorter (blank_gap b h) = omega arith
gap_shorter (comment_gap c) = comment_length c

scans_tail : {text bs r : List ℕ} {ts : List Token} → Scans text bs r ts → Tail r bs
scans_tail nothing = here
scans_tail (blank b h x) = there (scans_tail x)
scans_tail (comment c x) = tail_chain (comment_tail c) (scans_tail x)
scans_tail (token k o l x) = tail_chain (lexeme_tail l.spelled) (scans_tail x)

-- from the longer of two rests to the shorter one
goes_on : {text bs r q : List ℕ} {ts us : List Token} → Scans text bs r ts → Scans text bs q us → length q ≤ length r
    → (vs : List Token) × Scans text r q vs
goes_on nothing y h = (_, y)
goes_on (blank b e x) nothing h = absurd (let l = tail_length (scans_tail x) in omega arith)
goes_on (blank b e x) (blank b' e' y) h = goes_on x y h
goes_on (blank b e x) (comment c y) h = absurd (blank_opens b _ e (opens c))
goes_on (blank b e x) (token k o l y) h = absurd (not_blank l.spelled e)
goes_on (comment c x) nothing h = absurd (let l = tail_length (scans_tail x) in let m = comment_length c in omega arith)
goes_on (comment c x) (blank b e y) h = absurd (blank_opens b _ e (opens c))
goes_on {text = text} {q = q} {us = us} (comment c x) (comment c' y) h =
    goes_on x (subst (λ u. Scans text u q us) (one_comment c' c) y) h
goes_on (comment c x) (token k o l y) h = absurd (differ (opens c) o)
goes_on (token k o l x) nothing h = absurd (let i = tail_length (scans_tail x) in let m = lexeme_length l.spelled in
    omega arith)
goes_on (token k o l x) (blank b e y) h = absurd (not_blank l.spelled e)
goes_on (token k o l x) (comment c y) h = absurd (differ (opens c) o)
goes_on {text} {q = q} (token k o l x) (token {ts = us} j o' m y) h =
    goes_on x (subst (λ u. Scans text u q us) (sym (same_rest text l m)) y) h

-- the first item of a scan is the one that stands there
after_gap : {text bs r q : List ℕ} {vs : List Token} → IsGap bs r → Scans text bs q vs → (bs ≡ q)
    ⊎ (length q ≤ length r)
after_gap g nothing = inl refl
after_gap (blank_gap b h) (blank b' h' y) = inr (tail_length (scans_tail y))
after_gap (blank_gap b h) (comment c y) = absurd (blank_opens b _ h (opens c))
after_gap (blank_gap b h) (token k o l y) = absurd (not_blank l.spelled h)
after_gap (comment_gap c) (blank b h y) = absurd (blank_opens b _ h (opens c))
after_gap (comment_gap c) (comment c' y) = inr
    (let e = ap length (one_comment c c') in let l = tail_length (scans_tail y) in omega arith)
after_gap (comment_gap c) (token k o l y) = absurd (differ (opens c) o)

after_token : {text bs r q : List ℕ} {k : Kind} {vs : List Token} → opens_comment bs ≡ false → Longest k bs r
    → Scans text bs q vs → (bs ≡ q) ⊎ (length q ≤ length r)
after_token e l nothing = inl refl
after_token e l (blank b h y) = absurd (not_blank l.spelled h)
after_token e l (comment c y) = absurd (differ (opens c) e)
after_token {text = text} e l (token k o m y) =
    inr (let i = ap length (same_rest text l m) in let j = tail_length (scans_tail y) in omega arith)

-- places
place_append : (p : Place) (xs ys : List ℕ) → place_behind p (xs ++ ys) ≡ place_behind (place_behind p xs) ys
place_append p [] ys = refl
place_append p (x ∷ xs) ys = place_append (next_place p x) xs ys

front_more : {text rest after : List ℕ} → Tail rest text → Tail after rest
    → take (length text - length after) text ≡ take (length text - length rest) text
    ++ take (length rest - length after) rest
front_more {text} {after = after} here t = ap (λ l. l ++ take (length text - length after) text) (sym (taken_none text))
front_more {rest = rest} {after = after} (there {bs = bs} {b = b} x) t =
    taken_more b bs after (let l = tail_length x in let m = tail_length t in omega arith)
    ∙ ap (λ l. b ∷ l) (front_more x t)
    ∙ ap (λ l. l ++ take (length rest - length after) rest) (sym (taken_more b bs rest (tail_length x)))

line_bound : (p : Place) (bs : List ℕ) → (place_behind p bs).line ≤ p.line + length bs
line_bound p [] = omega arith
line_bound p (b ∷ bs) = omega (arith, line_by p.line (b == 10), line_bound (next_place p b) bs)

column_bound : (p : Place) (bs : List ℕ) → (place_behind p bs).column ≤ p.column + length bs
column_bound p [] = omega arith
column_bound p (b ∷ bs) = omega (arith, column_by p.column (b == 10), column_bound (next_place p b) bs)

taken_length : (n : ℕ) (bs : List ℕ) → length (take n bs) ≤ length bs
taken_length n bs = omega (arith, length-take n bs)

pub record ScannedSoFar (text rest : List ℕ) (tokens : List Token) (at : Place) : Type 0 where
  pub along : Scans text text rest tokens
  pub kept : (s : Rule) (other : List ℕ) (ts : List Token) → Scans text text other ts → length rest < length other
      → BreaksHere s other → ⊥
  pub place : at ≡ place_at text (offset text rest)
  pub short : length text ≤ 1048576

pub scan_start : (text : List ℕ) (tokens : List Token) (at : Place) → tokens ≡ [] → at ≡ start → length text ≤ 1048576
    → ScannedSoFar text text tokens at
scan_start text tokens at e p h = record {
  along = subst (Scans text text text) (sym e) nothing;
  kept = λ s other ts x l b. let m = tail_length (scans_tail x) in omega arith;
  place = p ∙ ap (place_behind start) (sym (taken_none text));
  short = h;
}

-- how far it is
pub scan_shorter : {text rest : List ℕ} {tokens : List Token} {at : Place} → ScannedSoFar text rest tokens at
    → length rest ≤ length text
scan_shorter s = tail_length (scans_tail s.along)

pub scan_line : {text rest : List ℕ} {tokens : List Token} {at : Place} → ScannedSoFar text rest tokens at
    → at.line ≤ 1048577
scan_line {text} {rest} s = let e = ap (λ p. p.line) s.place in
    omega (arith, line_bound start (take (offset text rest) text), taken_length (offset text rest) text, s.short)

pub scan_column : {text rest : List ℕ} {tokens : List Token} {at : Place} → ScannedSoFar text rest tokens at
    → at.column ≤ 1048577
scan_column {text} {rest} s = let e = ap (λ p. p.column) s.place in
    omega (arith, column_bound start (take (offset text rest) text), taken_length (offset text rest) text, s.short)

module _ {text rest : List ℕ} {tokens : List Token} {at : Place} (s : ScannedSoFar text rest tokens at) where
  kept_by : (after : List ℕ) → ((other : List ℕ) (vs : List Token) → Scans text rest other vs → (rest ≡ other)
      ⊎ (length other ≤ length after)) → ((r : Rule) → BreaksHere r rest → ⊥)
      → (r : Rule) (other : List ℕ) (ts : List Token) → Scans text text other ts → length after < length other
      → BreaksHere r other → ⊥
  kept_by after f n r other ts x l b = split (cases_lt (length rest) (length other))
    where
      here_or : (rest ≡ other) ⊎ (length other ≤ length after) → ⊥
      here_or (inl e) = n r (subst (BreaksHere r) (sym e) b)
      here_or (inr h) = omega arith

      split : (length rest < length other) ⊎ (length other ≤ length rest) → ⊥
      split (inl h) = s.kept r other ts x h b
      split (inr h) = let y = goes_on s.along x h in here_or (f other y.0 y.1)

  place_by : (after : List ℕ) (next : Place) → Tail after rest
      → next ≡ place_behind at (take (length rest - length after) rest) → next ≡ place_at text (offset text after)
  place_by after next t e =
      e ∙ ap (λ p. place_behind p (take (length rest - length after) rest)) s.place
      ∙ sym (place_append start (take (offset text rest) text) (take (length rest - length after) rest))
      ∙ ap (place_behind start) (sym (front_more (scans_tail s.along) t))

  pub scan_gap : (after : List ℕ) (next : Place) → IsGap rest after → ((r : Rule) → BreaksHere r rest → ⊥)
      → next ≡ place_behind at (take (length rest - length after) rest) → ScannedSoFar text after tokens next
  scan_gap after next g n e = record {
    along = subst (Scans text text after) (append-nil tokens) (scans_chain s.along (one g));
    kept = kept_by after (λ other vs x. after_gap g x) n;
    place = place_by after next (gap_tail g) e;
    short = s.short;
  }
    where
      one : {bs r : List ℕ} → IsGap bs r → Scans text bs r []
      one (blank_gap b h) = blank b h nothing
      one (comment_gap c) = comment c nothing

  pub scan_token : (after : List ℕ) (next : Place) (k : Kind) (new : List Token) → opens_comment rest ≡ false
      → Longest k rest after → ((r : Rule) → BreaksHere r rest → ⊥)
      → next ≡ place_behind at (take (length rest - length after) rest)
      → new ≡ tokens ++ record { kind = k; from = length text - length rest; to = length text - length after; at = at }
      ∷ [] → ScannedSoFar text after new next
  scan_token after next k new o l n e f = record {
    along = subst (Scans text text after) (sym
        (f ∙ ap (λ p. tokens ++ record {
          kind = k;
          from = length text - length rest;
          to = length text - length after;
          at = p;
        } ∷ []) s.place)) (scans_chain s.along (token k o l nothing));
    kept = kept_by after (λ other vs x. after_token o l x) n;
    place = place_by after next (lexeme_tail l.spelled) e;
    short = s.short;
  }

-- at the end of the text
pub nothing_here : (s : Rule) → BreaksHere s [] → ⊥
nothing_here rule.S1 b = elim b [ ]
nothing_here rule.S2 b = let h = b.opens in cc
nothing_here rule.S3 b = elim b [ ]
nothing_here rule.S4 b = let l = lexeme_length b.number.spelled in omega arith
nothing_here rule.S5 b = let l = lexeme_length b.name.spelled in omega arith
nothing_here rule.U1 (inl b) = let l = lexeme_length b.name.spelled in omega arith
nothing_here rule.U1 (inr b) = elim b [ ]
nothing_here rule.U2 (inl b) = let l = lexeme_length b.number.spelled in omega arith
nothing_here rule.U2 (inr b) = elim b [ ]
nothing_here s b = b

pub lexis : (text : List ℕ) (r : Rule) (at : Place) → BreaksLexis text r at → LongText text at ⊎ BreaksAlong text r at
lexis text rule.L1 at b = inl b
lexis text r at b = inr b

pub to_lexis : (text : List ℕ) (r : Rule) (at : Place) → BreaksAlong text r at → BreaksLexis text r at
to_lexis text rule.L1 at b = absurd b.here
to_lexis text r at b = b

empty_here : (s : Rule) (l : List ℕ) → length l ≤ 0 → BreaksHere s l → ⊥
empty_here s [] h b = nothing_here s b
empty_here s (x ∷ l) h b = absurd (omega arith)

pub scan_done : (text rest : List ℕ) (tokens : List Token) (at : Place) → ScannedSoFar text rest tokens at → rest ≡ []
    → IsTokens text tokens
scan_done text rest tokens at s e = record {
  scans = subst (λ l. Scans text text l tokens) e s.along;
  kept = λ r p b. none r p (lexis text r p b);
}
  where
    none : (r : Rule) (p : Place) → LongText text p ⊎ BreaksAlong text r p → ⊥
    none r p (inl b) = let l = b.above in let m = s.short in omega arith
    none r p (inr b) = split (cases_lt (length rest) (length b.rest))
      where
        split : (length rest < length b.rest) ⊎ (length b.rest ≤ length rest) → ⊥
        split (inl h) = s.kept r b.rest b.tokens b.along h b.here
        split (inr h) = let l = ap length e in empty_here r b.rest (omega arith) b.here

-- a text that is too long
pub too_long : (text : List ℕ) (at : Place) → at ≡ start → 1048576 < length text
    → IsFirst (BreaksLexis text) (record { rule = rule.L1; at = at })
too_long text at p h = record {
  breaks = record { above = h; place = p };
  first = λ o b. by o (lexis text o.rule o.at b);
}
  where
    by : (o : Refusal) → LongText text o.at ⊎ BreaksAlong text o.rule o.at
        → refusal_before o (record { rule = rule.L1; at = at }) ≡ false
    by o (inl b) = no_sooner o (record { rule = rule.L1; at = at }) (b.place ∙ sym p) (omega arith)
    by o (inr b) = split (cases_lt 0 (offset text b.rest))
      where
        split : (0 < offset text b.rest) ⊎ (offset text b.rest ≤ 0)
            → refusal_before o (record { rule = rule.L1; at = at }) ≡ false
        split (inl g) = later o (record { rule = rule.L1; at = at })
            (subst (λ q. Earlier q o.at) (sym p)
            (subst (Earlier start) (sym b.place) (rises text start 0 (offset text b.rest) g (omega arith))))
        split (inr g) =
            let z : offset text b.rest ≡ 0 = omega arith in
            no_sooner o (record { rule = rule.L1; at = at }) (b.place ∙ ap (λ n. place_at text n) z ∙ sym p)
            (omega arith)

-- the first rule that is broken
pub scan_breaks : (text rest : List ℕ) (tokens : List Token) (at : Place) (r : Rule) → ScannedSoFar text rest tokens at
    → FirstHere r rest → IsFirst (BreaksLexis text) (record { rule = r; at = at })
scan_breaks text rest tokens at r s f = record {
  breaks = to_lexis text r at (record {
    rest = rest;
    tokens = tokens;
    along = s.along;
    here = f.broken;
    place = s.place;
  });
  first = λ o b. by o (lexis text o.rule o.at b);
}
  where
    by : (o : Refusal) → LongText text o.at ⊎ BreaksAlong text o.rule o.at
        → refusal_before o (record { rule = r; at = at }) ≡ false
    by o (inl b) = absurd (let l = b.above in let m = s.short in omega arith)
    by o (inr b) = split (cases_lt (length rest) (length b.rest)) (cases_lt (length b.rest) (length rest))
      where
        split : (length rest < length b.rest) ⊎ (length b.rest ≤ length rest) → (length b.rest < length rest)
            ⊎ (length rest ≤ length b.rest) → refusal_before o (record { rule = r; at = at }) ≡ false
        split (inl h) g = absurd (s.kept o.rule b.rest b.tokens b.along h b.here)
        split (inr h) (inl g) =
            later o (record { rule = r; at = at })
            (subst (λ q. Earlier q o.at) (sym s.place)
            (subst (Earlier (place_at text (offset text rest))) (sym b.place)
            (rises text start (offset text rest) (offset text b.rest) (let m = scan_shorter s in omega arith)
            (omega arith))))
        split (inr h) (inr g) =
            let e : b.rest ≡ rest = tail_same (scans_tail b.along) (scans_tail s.along) (omega arith) in
            no_sooner o (record { rule = r; at = at })
            (b.place ∙ ap (λ l. place_at text (offset text l)) e ∙ sym s.place)
            (f.first o.rule (subst (BreaksHere o.rule) e b.here))

-- the same where the tokens are not kept
abbrev pub PassedSoFar : List ℕ → List ℕ → Place → Type 0
PassedSoFar text rest at = (tokens : List Token) × ScannedSoFar text rest tokens at

pub pass_start : (text : List ℕ) (at : Place) → at ≡ start → length text ≤ 1048576 → PassedSoFar text text at
pass_start text at p h = ([], scan_start text [] at refl p h)

pub item_shorter : (bs r : List ℕ) (o : Option Kind) → FrontItem bs o r → length r < length bs
item_shorter bs r None x = gap_shorter x
item_shorter bs r (Some k) x = lexeme_length x.1.spelled

pub item_no_longer : (bs r : List ℕ) (o : Option Kind) → FrontItem bs o r → length r ≤ length bs
item_no_longer bs r o x = let l = item_shorter bs r o x in omega arith

pub pass_item : (text rest after : List ℕ) (at next : Place) (o : Option Kind) → PassedSoFar text rest at
    → FrontItem rest o after → ((r : Rule) → BreaksHere r rest → ⊥)
    → next ≡ place_behind at (take (length rest - length after) rest) → PassedSoFar text after next
pass_item text rest after at next None (ts, s) x n e = (ts, scan_gap s after next x n e)
pass_item text rest after at next (Some k) (ts, s) x n e = (_, scan_token s after next k _ x.0 x.1 n e refl)

-- what stands first, by what it is called
pub as_gap : (bs r : List ℕ) (o : Option Kind) → o ≡ None → FrontItem bs o r → IsGap bs r
as_gap bs r o e x = subst (λ o. FrontItem bs o r) e x

pub as_token : (bs r : List ℕ) (o : Option Kind) (k : Kind) → o ≡ Some k → FrontItem bs o r → (opens_comment bs ≡ false)
    × Longest k bs r
as_token bs r o k e x = subst (λ o. FrontItem bs o r) e x
