use Rattle.std.proofs.Common.{◌≡◌, max, ◌∷◌, [], subst, sym, ap, ◌∙◌}
use Rattle.std.proofs.Math.Nat.{max-zero}
use Rattle.std.specs.Ordering.{nat_cmp}
use Rattle.std.specs.BTreeMap.{is_at}
use Rattle.std.specs.Map.{lookup}
use Rattle.std.specs.Option.{IsSome}
use Rattle.sp_race.specs.Clocks.{count_of}
use Rattle.sp_race.proofs.ClockLaws.{count_in, Single, ordered_single, taken, more_pairs, first_pair}
use Rattle.sp_race.proofs.clock.Clock.merge.Goals as goal

pub loop-process-init : goal.loop-process-init
loop-process-init c =
    let e : c.into_iter-process-iterator.result ≡ c.args.other.now.counts.entries =
    c.into_iter-process-iterator.ensures.into_iter_gives ∙ c.iter-process-items.ensures.rest in (
      λ q. ap (λ es. max (count_of c.admit.new.self q) (count_in es q)) e,
      subst Single (sym e) (ordered_single c.args.other.now.counts.entries c.iter-process-items.ensures.ordered),
      λ q h. c.in-Ok.ensures.pairs q (subst (λ es. IsSome (lookup (is_at (nat_cmp q)) es)) e h),
    )

pub loop-process-preserved : goal.loop-process-preserved
loop-process-preserved c =
    let s : c.loop-process.process-iterator ≡ (c.in-Some.process.now, c.in-Some.count.now) ∷ c.next.new.self =
    c.in-Some.ensures.steps in
    let h = c.loop-process.invariant in
    let single = subst Single s h.1 in (
      λ q. taken (count_of c.loop-process.self) (count_of c.raise.new.self) c.in-Some.process.now c.in-Some.count.now
          c.next.new.self single.0 c.in-Ok-raise.ensures.ok q
          ∙ ap (λ es. max (count_of c.loop-process.self q) (count_in es q)) (sym s) ∙ h.0 q,
      single.1,
      λ q k. c.raise.ensures.pairs q
          (h.2 q (subst (λ es. IsSome (lookup (is_at (nat_cmp q)) es)) (sym s)
          (more_pairs q (c.in-Some.process.now, c.in-Some.count.now) c.next.new.self k))),
    )

-- no memory is refused in the loop: each process that it raises has a pair
pub returns-in-Err-raise : goal.returns-in-Err-raise
returns-in-Err-raise c =
    let s : c.loop-process.process-iterator ≡ (c.in-Some.process.now, c.in-Some.count.now) ∷ c.next.new.self =
    c.in-Some.ensures.steps in
    let p = c.in-Some.process.now in
    absurd (c.in-Err-raise.ensures.absent
    (c.loop-process.invariant.2 p
    (subst (λ es. IsSome (lookup (is_at (nat_cmp p)) es)) (sym s)
    (first_pair p c.in-Some.count.now c.next.new.self))))

pub returns : goal.returns
returns c =
    let e : c.loop-process.process-iterator ≡ [] = c.in-None.ensures.steps.0 in
    record {
      ok = λ q. sym (max-zero (count_of c.loop-process.self q))
          ∙ ap (λ es. max (count_of c.loop-process.self q) (count_in es q)) (sym e) ∙ c.loop-process.invariant.0 q
          ∙ ap (λ n. max n (count_of c.args.other.now q)) (c.admit.ensures.counts q);
      err = tt;
    }
