use Rattle.std.proofs.Common.{◌≡◌, ◌∙◌, ◌+◌, ◌<◌, ◌≤◌, ◌&&◌, ◌||◌, ℕ, List, length, drop, get_or, true, false, sym, ap}
use Rattle.std.specs.Prelude.{not}
use Rattle.std.proofs.lemmas.Bool.{le-leb}
use Rattle.std.proofs.lemmas.List.{at_drop_more}
use Rattle.sp_verify_effects.specs.Variables.{goes_out, owns}
use Rattle.sp_verify_effects.proofs.variables.goes_out.Goals as goal

here : (ks : List (ℕ × ℕ)) (m n : ℕ) (xs : List ℕ) (i : ℕ) → i < length xs → n ≤ get_or xs i 0
    → owns ks m (get_or xs i 0) ≡ false
    → goes_out ks m n (drop i xs) ≡ goes_out ks m n xs → true ≡ goes_out ks m n xs
here ks m n xs i h l f e =
    sym (at_drop_more (goes_out ks m n) xs i 0 h
    ∙ ap (λ b. (b && not (owns ks m (get_or xs i 0)))
    || goes_out ks m n (drop (i + 1) xs)) (le-leb n (get_or xs i 0) l)
    ∙ ap (λ b. (true && not b) || goes_out ks m n (drop (i + 1) xs)) f) ∙ e

pub returns-then-not-owns : goal.returns-then-not-owns
returns-then-not-owns c =
    here c.args.own.now.keys c.args.entry c.args.from c.args.xs.now c.loop-x.x-index c.loop-x-test.true c.if-from-x.true
    (sym c.owns.ensures ∙ c.if-not-owns.true) c.loop-x.invariant
