use Rattle.std.proofs.Common.{◌≡◌, ◌⊎◌, ◌<◌, ◌∙◌, sym, ap, subst, refl, false, Some}
use Rattle.sp_code.specs.declared.code.Parts.{Parts}
use Rattle.sp_code.specs.Sound.{HasDistinctBlocks}
use Rattle.sp_code.specs.Formals.{HaveFormals}
use Rattle.sp_room.specs.Seats.{seat_view, own_of, opening_of}
use Rattle.sp_room.specs.RoomRule.{Called, Declined}
use Rattle.sp_room.proofs.Places.{same_again, stays_of}
use Rattle.sp_kernel.specs.declared.kernel.Kernel.{Kernel}
use Rattle.sp_kernel.specs.declared.ask.Ask.TheVariants as ask
use Rattle.sp_kernel.specs.declared.ask.Got.{Got}
use Rattle.sp_kernel.specs.declared.ask.Got.TheVariants as got
use Rattle.sp_kernel.specs.Asks.{KernelSteps, refusal, is_abandon, MayAsk}
use Rattle.sp_runner.specs.Works.{IsNextAsk}
use Rattle.sp_runner.proofs.WorkerCalls.{IsAfter, after, gives_up_next, starts_next}
use Rattle.sp_runner.proofs.WorkInHand.{HasProcessOut, got_work_so, is_ranked, may_hand_in, may_turn, may_lose}
use Rattle.sp_runner.proofs.WorkInHand.{may_give_up}
use Rattle.sp_runner.proofs.Ending.{finished, gave_up}
use Rattle.sp_runner.proofs.worker.work.Goals as goal

pub loop-init : goal.loop-init
loop-init g c = record {
  same = record {
    table = refl;
    opening = refl;
    number = refl;
    seats_made = refl;
    from = refl;
    joined = refl;
    looked = refl;
  };
  claim = c.requires.claim;
  may = record {
    asks = (c.requires.knows.0, tt {0});
    more = refl;
    next = starts_next
        (own_of c.args.seat) c.requires.knows.1;
  };
}

pub serve-requires-clause-seat : goal.serve-requires-clause-seat
serve-requires-clause-seat g c = stays_of c.args.room.now c.args.seat c.loop.seat c.loop.invariant.same c.requires.seat

pub serve-requires-clause-last : goal.serve-requires-clause-last
serve-requires-clause-last g c e = c.loop.invariant.claim

pub serve-requires-clause-asks : goal.serve-requires-clause-asks
serve-requires-clause-asks g c = c.loop.invariant.may.asks

pub turn-requires-clause-ranked : goal.turn-requires-clause-ranked
turn-requires-clause-ranked g c =
    let x : Kernel = opening_of c.args.room.now in let v = seat_view c.loop.seat in
    let w = seat_view c.serve.new.self in
    let has : HasProcessOut x w.seen w.number c.in-Work.proc =
    got_work_so x c.requires.run.opening v w c.loop.ask c.in-Work.proc
    c.serve.ensures.place.number (subst (λ (r : Got). Called KernelSteps x v c.loop.ask r w
    ⊎ ((is_abandon c.loop.ask ≡ false)
    × Declined KernelSteps refusal x v c.loop.ask r w)) c.in-Work.is c.serve.ensures.call) in
    is_ranked x c.args.code.now c.args.limits.now c.requires.run w.seen w.number c.in-Work.proc has

pub turn-requires-clause-blocks : goal.turn-requires-clause-blocks
turn-requires-clause-blocks g c = subst
    (λ (p : Parts). HasDistinctBlocks p.layouts) c.requires.run.code c.requires.run.opening.sound.blocks

pub turn-requires-clause-formals : goal.turn-requires-clause-formals
turn-requires-clause-formals g c = subst
    (λ (p : Parts). HaveFormals p.layouts) c.requires.run.code c.requires.run.opening.sound.formals

pub turn-requires-clause-safe : goal.turn-requires-clause-safe
turn-requires-clause-safe g c =
    let x : Kernel = opening_of c.args.room.now in let v = seat_view c.loop.seat in
    let w = seat_view c.serve.new.self in
    let has : HasProcessOut x w.seen w.number c.in-Work.proc =
    got_work_so x c.requires.run.opening v w c.loop.ask c.in-Work.proc
    c.serve.ensures.place.number (subst (λ (r : Got). Called KernelSteps x v c.loop.ask r w
    ⊎ ((is_abandon c.loop.ask ≡ false)
    × Declined KernelSteps refusal x v c.loop.ask r w)) c.in-Work.is c.serve.ensures.call) in
    may_turn x c.args.code.now c.args.limits.now c.requires.run w.seen w.number c.in-Work.proc has

pub serve-requires-in-Memory-clause-seat : goal.serve-requires-in-Memory-clause-seat
serve-requires-in-Memory-clause-seat g c = stays_of c.args.room.now c.loop.seat c.serve.new.self c.serve.ensures.place
    (stays_of c.args.room.now c.args.seat c.loop.seat c.loop.invariant.same c.requires.seat)

pub serve-requires-in-Memory-clause-last : goal.serve-requires-in-Memory-clause-last
serve-requires-in-Memory-clause-last g c e = subst (λ n. 0 < n)
    (sym (c.serve.ensures.reserve c.loop.invariant.may.more)) c.loop.invariant.claim

pub serve-requires-in-Memory-clause-asks : goal.serve-requires-in-Memory-clause-asks
serve-requires-in-Memory-clause-asks g c =
    let x : Kernel = opening_of c.args.room.now in let v = seat_view c.loop.seat in
    let w = seat_view c.serve.new.self in
    let has : HasProcessOut x w.seen w.number c.in-Work.proc =
    got_work_so x c.requires.run.opening v w c.loop.ask c.in-Work.proc
    c.serve.ensures.place.number (subst (λ (r : Got). Called KernelSteps x v c.loop.ask r w
    ⊎ ((is_abandon c.loop.ask ≡ false)
    × Declined KernelSteps refusal x v c.loop.ask r w)) c.in-Work.is c.serve.ensures.call) in
    may_lose x c.args.code.now c.args.limits.now c.requires.run w.seen w.number c.in-Work.proc has w.own c.turn.new.self
    c.serve.ensures.own c.turn.ensures.same

pub returns-in-Memory-clause-place : goal.returns-in-Memory-clause-place
returns-in-Memory-clause-place g c = same_again c.args.seat c.loop.seat c.serve-in-Memory.new.self c.loop.invariant.same
    (same_again c.loop.seat c.serve.new.self c.serve-in-Memory.new.self c.serve.ensures.place
    c.serve-in-Memory.ensures.place)

pub returns-in-Memory-clause-left : goal.returns-in-Memory-clause-left
returns-in-Memory-clause-left g c = gave_up (opening_of c.args.room.now) c.requires.run.opening
    (seat_view c.serve.new.self) (seat_view c.serve-in-Memory.new.self)
    (Some c.turn.new.self) c.serve-in-Memory.result c.serve-in-Memory.ensures.call

pub returns-in-Memory-clause-calls : goal.returns-in-Memory-clause-calls
returns-in-Memory-clause-calls g c =
    let x : Kernel = opening_of c.args.room.now in let v = seat_view c.loop.seat in
    let w = seat_view c.serve.new.self in
    let held : IsAfter w.own (got.Work c.in-Work.proc) = after x v w c.loop.ask
    (got.Work c.in-Work.proc) c.loop.invariant.may.next (subst (λ (r : Got). Called KernelSteps x v c.loop.ask r w
    ⊎ ((is_abandon c.loop.ask ≡ false)
    × Declined KernelSteps refusal x v c.loop.ask r w)) c.in-Work.is c.serve.ensures.call) in
    (after x w (seat_view c.serve-in-Memory.new.self) (ask.Abandon (Some c.turn.new.self)) c.serve-in-Memory.result
    (held.0, held.1 ∙ ap (λ n. Some n) (sym c.turn.ensures.same.0)) c.serve-in-Memory.ensures.call).0

pub loop-preserved-in_default : goal.loop-preserved-in_default
loop-preserved-in_default g c =
    let x : Kernel = opening_of c.args.room.now in let v = seat_view c.loop.seat in
    let w = seat_view c.serve.new.self in
    let call = subst (λ (r : Got). Called KernelSteps x v c.loop.ask r w
    ⊎ ((is_abandon c.loop.ask ≡ false)
    × Declined KernelSteps refusal x v c.loop.ask r w)) c.in-Work.is c.serve.ensures.call in
    let has : HasProcessOut x w.seen w.number c.in-Work.proc =
    got_work_so x c.requires.run.opening v w c.loop.ask c.in-Work.proc
    c.serve.ensures.place.number call in
    let held : IsAfter w.own (got.Work c.in-Work.proc) = after x v w c.loop.ask
    (got.Work c.in-Work.proc) c.loop.invariant.may.next call in
    record {
      same = same_again c.args.seat c.loop.seat c.serve.new.self c.loop.invariant.same c.serve.ensures.place;
      claim = subst (λ n. 0 < n) (sym (c.serve.ensures.reserve c.loop.invariant.may.more)) c.loop.invariant.claim;
      may = record {
        asks = may_hand_in x c.args.code.now c.args.limits.now c.requires.run w.seen w.number c.in-Work.proc has w.own
            c.turn.new.self c.turn.result c.serve.ensures.own c.turn.ensures.turn c.turn.ensures.same
            c.in_default.not-Memory;
        more = refl;
        next = (held.0, held.1 ∙ ap (λ n. Some n) (sym c.turn.ensures.same.0));
      };
    }

pub rest-requires : goal.rest-requires
rest-requires g c = record {
  seat = stays_of c.args.room.now c.loop.seat c.serve.new.self c.serve.ensures.place
      (stays_of c.args.room.now c.args.seat c.loop.seat c.loop.invariant.same c.requires.seat);
}

pub loop-preserved : goal.loop-preserved
loop-preserved g c =
    let x : Kernel = opening_of c.args.room.now in let v = seat_view c.loop.seat in
    let w = seat_view c.serve.new.self in
    record {
      same = same_again c.args.seat c.loop.seat c.serve.new.self c.loop.invariant.same c.serve.ensures.place;
      claim = subst (λ n. 0 < n) (sym (c.serve.ensures.reserve c.loop.invariant.may.more)) c.loop.invariant.claim;
      may = record {
        asks = (c.serve.ensures.own, tt {0});
        more = refl;
        next = after x v w c.loop.ask got.Nothing c.loop.invariant.may.next
            (subst (λ (r : Got). Called KernelSteps x v c.loop.ask r w
            ⊎ ((is_abandon c.loop.ask ≡ false)
            × Declined KernelSteps refusal x v c.loop.ask r w)) c.in-Nothing.is c.serve.ensures.call);
      };
    }

pub returns-in-Finished-clause-place : goal.returns-in-Finished-clause-place
returns-in-Finished-clause-place g c = same_again c.args.seat c.loop.seat c.serve.new.self c.loop.invariant.same
    c.serve.ensures.place

pub returns-in-Finished-clause-left : goal.returns-in-Finished-clause-left
returns-in-Finished-clause-left g c =
    let x : Kernel = opening_of c.args.room.now in let v = seat_view c.loop.seat in
    let w = seat_view c.serve.new.self in
    finished x c.requires.run.opening v w c.loop.ask (subst (λ (r : Got). Called KernelSteps x v c.loop.ask r w
    ⊎ ((is_abandon c.loop.ask ≡ false)
    × Declined KernelSteps refusal x v c.loop.ask r w)) c.in-Finished.is c.serve.ensures.call)

pub returns-in-Finished-clause-calls : goal.returns-in-Finished-clause-calls
returns-in-Finished-clause-calls g c =
    let x : Kernel = opening_of c.args.room.now in let v = seat_view c.loop.seat in
    let w = seat_view c.serve.new.self in
    (after x v w c.loop.ask c.serve.result c.loop.invariant.may.next c.serve.ensures.call).0

pub serve-requires-in-Refused-clause-seat : goal.serve-requires-in-Refused-clause-seat
serve-requires-in-Refused-clause-seat g c = stays_of c.args.room.now c.loop.seat c.serve.new.self c.serve.ensures.place
    (stays_of c.args.room.now c.args.seat c.loop.seat c.loop.invariant.same c.requires.seat)

pub serve-requires-in-Refused-clause-last : goal.serve-requires-in-Refused-clause-last
serve-requires-in-Refused-clause-last g c e = subst (λ n. 0 < n)
    (sym (c.serve.ensures.reserve c.loop.invariant.may.more)) c.loop.invariant.claim

pub serve-requires-in-Refused-clause-asks : goal.serve-requires-in-Refused-clause-asks
serve-requires-in-Refused-clause-asks g c =
    let v = seat_view c.loop.seat in let w = seat_view c.serve.new.self in
    subst (λ o. MayAsk (opening_of c.args.room.now) w.number w.seen w.own (ask.Abandon o)) (sym c.held.ensures)
    (may_give_up (opening_of c.args.room.now) c.requires.run.opening v w c.loop.ask c.in-Refused.handed
    c.serve.ensures.place.number c.serve.ensures.seen c.serve.ensures.own c.loop.invariant.may.asks
    (subst (λ (r : Got). Called KernelSteps (opening_of c.args.room.now) v c.loop.ask r w
    ⊎ ((is_abandon c.loop.ask ≡ false)
    × Declined KernelSteps refusal (opening_of c.args.room.now) v c.loop.ask r w)) c.in-Refused.is
    c.serve.ensures.call))

pub returns-in-Refused-clause-place : goal.returns-in-Refused-clause-place
returns-in-Refused-clause-place g c = same_again c.args.seat c.loop.seat c.serve-in-Refused.new.self
    c.loop.invariant.same (same_again c.loop.seat c.serve.new.self c.serve-in-Refused.new.self c.serve.ensures.place
    c.serve-in-Refused.ensures.place)

pub returns-in-Refused-clause-left : goal.returns-in-Refused-clause-left
returns-in-Refused-clause-left g c = gave_up (opening_of c.args.room.now) c.requires.run.opening
    (seat_view c.serve.new.self) (seat_view c.serve-in-Refused.new.self) c.held.result c.serve-in-Refused.result
    c.serve-in-Refused.ensures.call

pub returns-in-Refused-clause-calls : goal.returns-in-Refused-clause-calls
returns-in-Refused-clause-calls g c =
    let x : Kernel = opening_of c.args.room.now in let v = seat_view c.loop.seat in
    let w = seat_view c.serve.new.self in
    let held : IsAfter w.own (got.Refused c.in-Refused.handed) = after x v w c.loop.ask
    (got.Refused c.in-Refused.handed) c.loop.invariant.may.next
    (subst (λ (r : Got). Called KernelSteps x v c.loop.ask r w
    ⊎ ((is_abandon c.loop.ask ≡ false)
    × Declined KernelSteps refusal x v c.loop.ask r w)) c.in-Refused.is c.serve.ensures.call) in
    (after x w (seat_view c.serve-in-Refused.new.self) (ask.Abandon c.held.result) c.serve-in-Refused.result
    (subst (λ o. IsNextAsk w.own (ask.Abandon o)) (sym c.held.ensures)
    (gives_up_next w.own c.in-Refused.handed held)) c.serve-in-Refused.ensures.call).0
