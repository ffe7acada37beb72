-- The canonical text of a program breaks no rule of its characters and its grammar.
use Rattle.std.proofs.Common.{◌≡◌, ℕ, ◌≤◌, Bool, List, [], ◌∷◌, length, map, Option, Some, None, ◌⊎◌, inl, inr, refl}
use Rattle.std.proofs.Common.{sym as back_of, ap, ◌∙◌, subst, arith}
use borrow.Author.Tests.{ltb-true}
use Rattle.sp_base.specs.declared.place.Place.{Place}
use Rattle.sp_base.specs.declared.rule.Rule.{Rule}
use Rattle.sp_base.specs.declared.rule.Rule.TheVariants as rule
use Rattle.sp_tree.specs.declared.token.Token.{Token}
use Rattle.sp_tree.specs.declared.token.Kind.{Kind}
use Rattle.sp_tree.specs.PlainSyntax.{Program}
use Rattle.sp_tree.specs.Grammar.{IsProgram}
use Rattle.sp_tree.specs.Viable.{Shallow}
use Rattle.sp_tree.specs.Scans as s
use Rattle.sp_tree.specs.Scans.{Scans, BreaksHere, BreaksAlong, LongText, IsTokens}
use Rattle.sp_base.specs.declared.halt.Refusal.{Refusal}
use Rattle.sp_tree.specs.Breaches.{nesting, BreaksGrammar, IsFirstBroken}
use Rattle.sp_tree.specs.Symbols.{Symbol, AProgram, AHeading, Value, part}
use Rattle.sp_tree.specs.Table.{RowEntry, Row, rows, look, gap}
use Rattle.sp_tree.specs.SymbolMachine.{skips_if, allows, acts, act, NextStack, On, No, next_of_act, next_behind}
use Rattle.sp_tree.specs.SymbolMachine.{RunEnd, Done, StuckAt}
use Rattle.sp_tree.specs.SymbolMachine.{end_from, run}
use Rattle.sp_tree.specs.Stops.{refusal_of}
use Rattle.sp_tree.proofs.Completes.{TokensOfAll, none, and, back}
use Rattle.sp_tree.proofs.Firsts.{first_broken, spells, none_broken}
use Rattle.sp_tree.proofs.TokenOrder.{lexeme_length, comment_length}
use Rattle.sp_tree.proofs.OneList.{not_both, one_comment, same_rest, blank_opens, opens, differ, not_blank}
use Rattle.sp_scan.proofs.Breaches.{fine_blank, comment_item}
use Rattle.sp_scan.proofs.TokenPrefixes.{nothing_here, lexis}
use Rattle.sp_format.specs.Items.{Item, HasItems}
use Rattle.sp_format.specs.Layout.{canonical_text}
use Rattle.sp_format.specs.Formats.{HasTree, IsCanonical, IsLong}
use Rattle.sp_format.proofs.ItemLists.{one_items}
use Rattle.sp_format.proofs.Neighbours.{kinds_of}
use Rattle.sp_format.proofs.Follows.{KeptItems, kept_end, kept_blank, kept_comment, kept_token, has_items}
use Rattle.sp_format.proofs.Follows.{canonical_kept}

-- ---- tokens

record Tokens (text bs : List ℕ) (ks : List Kind) : Type 0 where
  tokens : List Token
  scans : Scans text bs [] tokens
  kinds : map (λ t. t.kind) tokens ≡ ks

tokens_of : (text : List ℕ) {bs : List ℕ} {is : List Item} → KeptItems bs is → Tokens text bs (kinds_of is)
tokens_of text kept_end = record { tokens = []; scans = s.nothing; kinds = refl }
tokens_of text (kept_blank b h x) = let y = tokens_of text x in
    record { tokens = y.tokens; scans = s.blank b h y.scans; kinds = y.kinds }
tokens_of text (kept_comment c x) = let y = tokens_of text x in
    record { tokens = y.tokens; scans = s.comment c y.scans; kinds = y.kinds }
tokens_of text (kept_token {bs = bs} {u = u} k o l f x) = let y = tokens_of text x in
    record {
      tokens = s.token_from text k bs u ∷ y.tokens;
      scans = s.token k o l y.scans;
      kinds = ap (λ ks. k ∷ ks) y.kinds;
    }

-- nor anywhere along such bytes
fine : {text bs rest : List ℕ} {is : List Item} {ts : List Token} → KeptItems bs is → Scans text bs rest ts → (r : Rule)
    → BreaksHere r rest → ⊥
fine kept_end s.nothing r b = nothing_here r b
fine kept_end (s.comment c z) r b = let l = comment_length c in omega arith
fine kept_end (s.token k o l z) r b = let m = lexeme_length l.spelled in omega arith
fine (kept_blank {bs = bs} a h x) s.nothing r b = fine_blank a bs h r b
fine (kept_blank a h x) (s.blank a' h' z) r b = fine x z r b
fine (kept_blank a h x) (s.comment c z) r b = blank_opens a _ h (opens c)
fine (kept_blank a h x) (s.token k o l z) r b = not_blank l.spelled h
fine {bs = bs} (kept_comment {u = u} c x) s.nothing r b = (comment_item bs u c).1 r b
fine (kept_comment c x) (s.blank a h z) r b = blank_opens a _ h (opens c)
fine {text} {rest = rest} (kept_comment c x) (s.comment {ts = ts} c' z) r b =
    fine x (subst (λ u. Scans text u rest ts) (one_comment c' c) z) r b
fine (kept_comment c x) (s.token k o l z) r b = differ (opens c) o
fine (kept_token k o l f x) s.nothing r b = f r b
fine (kept_token k o l f x) (s.blank a h z) r b = not_blank l.spelled h
fine (kept_token k o l f x) (s.comment c z) r b = differ (opens c) o
fine {text} {rest = rest} (kept_token k o l f x) (s.token {ts = ts} j o' m z) r b =
    fine x (subst (λ u. Scans text u rest ts) (same_rest [] m l) z) r b

no_lexis : (text : List ℕ) {is : List Item} → KeptItems text is → length text ≤ 1048576 → (r : Rule) (at : Place)
    → LongText text at ⊎ BreaksAlong text r at → ⊥
no_lexis text x l r at (inl b) = let h = b.above in omega arith
no_lexis text x l r at (inr b) = fine x b.along r b.here

is_tokens : (text : List ℕ) {is : List Item} (x : KeptItems text is) → length text ≤ 1048576
    → IsTokens text (tokens_of text x).tokens
is_tokens text x l = record {
  scans = (tokens_of text x).scans;
  kept = λ r at b. no_lexis text x l r at (lexis text r at b);
}

-- ---- the grammar goes by kinds

-- the machine takes all tokens where no rule is broken
done_by : (text : List ℕ) (ts : List Token) → Scans text text [] ts
    → ((r : Rule) (at : Place) → BreaksGrammar text ts r at → ⊥) → (e : RunEnd)
    → run (Some nesting) ts (AProgram ∷ []) ≡ e
    → e ≡ Done
done_by text ts x f Done q = refl
done_by text ts x f (StuckAt w rest) q =
    let r = refusal_of text w rest in
    let b = first_broken text ts x r (record { why = w; rest = rest; proof = q; refusal_is = refl }) in
    absurd (f r.rule r.at b.breaks)

gap_same : (s : Symbol) (t u : Token) → skips_if (gap s t) ≡ skips_if (gap s u)
gap_same AHeading t u = refl
gap_same s t u = refl

acts_same : {s : Symbol} (b : Bool) (o : Option (RowEntry (Row s))) (g h : Option (Value s)) → skips_if g ≡ skips_if h
    → acts b o g ≡ acts b o h
acts_same b None g h e = e
acts_same b (Some x) g h e = refl

act_same : (reach : Option ℕ) (s : Symbol) (t u : Token) → t.kind ≡ u.kind → act reach s t ≡ act reach s u
act_same reach s t u e =
    acts_same (allows reach (part s)) (look (rows s) t.kind) (gap s t) (gap s u) (gap_same s t u)
    ∙ ap (λ k. acts (allows reach (part s)) (look (rows s) k) (gap s u)) e

after_same : (reach : Option ℕ) (q : List Symbol) (t u : Token) → t.kind ≡ u.kind
    → next_behind reach q t ≡ next_behind reach q u
after_same reach [] t u e = refl
after_same reach (s ∷ q) t u e = λ i. next_of_act (act_same reach s t u e i) q (after_same reach q t u e i)

run_same_by : (reach : Option ℕ) (t u : Token) (ts us : List Token) (n m : NextStack) → n ≡ m
    → end_from n (t ∷ ts) (run reach ts) ≡ Done → ((q : List Symbol) → run reach ts q ≡ Done → run reach us q ≡ Done)
    → end_from m (u ∷ us) (run reach us) ≡ Done
run_same_by reach t u ts us (On q) (On r) e d go = let same : q ≡ r = cc in
    go r (subst (λ q. run reach ts q ≡ Done) same d)
run_same_by reach t u ts us (On q) (No w) e d go = absurd cc
run_same_by reach t u ts us (No w) m e d go = absurd cc

run_same : (reach : Option ℕ) (ts us : List Token) → map (λ t. t.kind) ts ≡ map (λ t. t.kind) us → (q : List Symbol)
    → run reach ts q ≡ Done → run reach us q ≡ Done
run_same reach [] [] e q d = d
run_same reach [] (u ∷ us) e q d = absurd cc
run_same reach (t ∷ ts) [] e q d = absurd cc
run_same reach (t ∷ ts) (u ∷ us) e q d =
    let head : t.kind ≡ u.kind = cc in
    let tail : map (λ t. t.kind) ts ≡ map (λ t. t.kind) us = cc in
    run_same_by reach t u ts us (next_behind reach q t) (next_behind reach q u) (after_same reach q t u head) d
    (λ q d. run_same reach ts us tail q d)

-- tokens that the machine takes whole spell a program
takes_by : (text : List ℕ) (t : Token) (ts : List Token) (q : List Symbol) (n : NextStack)
    → next_behind (Some nesting) q t ≡ n
    → end_from n (t ∷ ts) (run (Some nesting) ts) ≡ Done
    → ((r : List Symbol) → run (Some nesting) ts r ≡ Done → TokensOfAll text (Shallow nesting 0) r ts [])
    → TokensOfAll text (Shallow nesting 0) q (t ∷ ts) []
takes_by text t ts q (On r) e d go = back text (Shallow nesting 0) (Some nesting)
    (λ d t ts h. λ g. ltb-true d nesting h) q t r e ts [] (go r d)
takes_by text t ts q (No w) e d go = absurd cc

takes : (text : List ℕ) (ts : List Token) (q : List Symbol) → run (Some nesting) ts q ≡ Done
    → TokensOfAll text (Shallow nesting 0) q ts []
takes text [] [] d = none
takes text [] (s ∷ q) d = absurd cc
takes text (t ∷ ts) q d = takes_by text t ts q (next_behind (Some nesting) q t) refl d (λ r d. takes text ts r d)

spelled : (text : List ℕ) (ts : List Token) → TokensOfAll text (Shallow nesting 0) (AProgram ∷ []) ts [] → (p : Program)
    × IsProgram text (Shallow nesting 0) ts [] p
spelled text ts (and p none) = p

-- ---- the canonical text

pub canonical_tree : {text : List ℕ} {is : List Item} → HasTree text → HasItems text is
    → length (canonical_text is) ≤ 1048576 → HasTree (canonical_text is)
canonical_tree {text} {is} (p, t) x l =
    let y = canonical_kept p t x in
    let out : List ℕ = canonical_text is in
    let z = tokens_of out y.kept in
    let d : run (Some nesting) t.tokens (AProgram ∷ []) ≡ Done =
    done_by text t.tokens t.are_tokens.scans t.kept (run (Some nesting) t.tokens (AProgram ∷ [])) refl in
    let e : run (Some nesting) z.tokens (AProgram ∷ []) ≡ Done =
    run_same (Some nesting) t.tokens z.tokens (back_of y.kinds ∙ back_of z.kinds) (AProgram ∷ []) d in
    let q = spelled out z.tokens (takes out z.tokens (AProgram ∷ []) e) in (
      q.0,
      record {
        tokens = z.tokens;
        are_tokens = is_tokens out y.kept l;
        spells = spells out z.tokens q.0 q.1;
        kept = none_broken out z.tokens q.0 q.1;
      },
    )

pub accepted : {text out : List ℕ} → HasTree text → IsCanonical text out → HasTree out
accepted {text} {out} t p = subst HasTree (back_of p.text_is)
    (canonical_tree t p.has (subst (λ o. length o ≤ 1048576) p.text_is p.short))

-- it is its own canonical text
pub is_own : {text out : List ℕ} → HasTree text → IsCanonical text out → IsCanonical out out
is_own {text} {out} t p = record {
  items = p.items;
  has = subst (λ o. HasItems o p.items) (back_of p.text_is) (has_items (canonical_kept t.0 t.1 p.has).kept);
  text_is = p.text_is;
  short = p.short;
}

-- it is refused for no rule
pub not_refused : {text out : List ℕ} (r : Refusal) → HasTree text → IsCanonical text out → IsFirstBroken out r
    ⊎ (HasTree out × IsLong out r) → ⊥
not_refused {text} {out} r t p (inl b) = let h = accepted t p in not_both out h.0 r h.1 b
not_refused {text} {out} r t p (inr (h, b)) =
    let o = is_own t p in
    let same : canonical_text b.items ≡ out = ap canonical_text (one_items b.has o.has) ∙ back_of o.text_is in
    let l = b.long in
    let m = p.short in
    omega (arith, ap length same)
