use Rattle.std.proofs.Common.{◌≡◌, ◌∙◌, sym, refl, subst}
use Rattle.std.specs.Prelude.{MatchOption}
use Rattle.sp_replay.specs.HeldProcesses.{held_at}
use Rattle.sp_replay.specs.FollowInvariant.{EventMade, CannotCome, HoldsAllReady}
use Rattle.sp_replay.specs.Tellings.{ToldMade}
use Rattle.sp_replay.proofs.TellingLaws.{told_if_same}
use Rattle.sp_replay.proofs.HistorySteps.{can_turn, ranked, picked_out, in_hand, none_of}
use Rattle.sp_replay.proofs.Entries.{not_held, compared}
use Rattle.sp_replay.proofs.follow.FollowedRun.follow_told.Goals as goal

pub returns-in_default : goal.returns-in_default
returns-in_default c = not_held c.args.self.now.kernel c.requires.stands.follows.come (held_at c.args.self.now.held)
    c.requires.stands.follows.held c.requires.stands.none_ready c.args.entry
    (sym c.pick.ensures.proc ∙ none_of c.pick.result c.in_default.not-Some)

pub turned-requires-clause-ranked : goal.turned-requires-clause-ranked
turned-requires-clause-ranked c =
    ranked c.args.self.now.kernel c.requires.stands.follows.come c.args.code.now c.args.limits.now c.requires.run
    c.in-Some.proc
    (picked_out c.args.self.now.kernel (held_at c.args.self.now.held) c.requires.stands.follows.held
    c.args.entry.process c.in-Some.proc (sym c.pick.ensures.proc ∙ c.in-Some.is))

pub turned-requires-clause-safe : goal.turned-requires-clause-safe
turned-requires-clause-safe c =
    can_turn c.args.self.now.kernel c.requires.stands.follows.come c.args.code.now c.args.limits.now c.requires.run
    c.in-Some.proc
    (picked_out c.args.self.now.kernel (held_at c.args.self.now.held) c.requires.stands.follows.held
    c.args.entry.process c.in-Some.proc (sym c.pick.ensures.proc ∙ c.in-Some.is))

pub told-requires-clause-hand : goal.told-requires-clause-hand
told-requires-clause-hand c =
    in_hand c.args.self.now (record { kernel = c.args.self.now.kernel; held = c.pick.new.held }) c.args.code.now
    c.args.limits.now c.args.entry.process c.in-Some.proc c.in-Ok.value c.requires.stands refl
    (sym c.pick.ensures.proc ∙ c.in-Some.is) c.pick.ensures.others c.in-Ok.ensures

pub hand_in-requires-clause-hand : goal.hand_in-requires-clause-hand
hand_in-requires-clause-hand c =
    in_hand c.args.self.now (record { kernel = c.args.self.now.kernel; held = c.pick.new.held }) c.args.code.now
    c.args.limits.now c.args.entry.process c.in-Some.proc c.in-Ok.value c.requires.stands refl
    (sym c.pick.ensures.proc ∙ c.in-Some.is) c.pick.ensures.others c.in-Ok.ensures

pub newest-requires : goal.newest-requires
newest-requires c = let (_, (_, event_made)) = c.in-Ok-hand_in.ensures in
    (c.args.self.now.kernel.journal.entries, _, event_made.entries)

pub returns : goal.returns
returns c =
    let x = c.args.self.now.kernel in
    let (s, (e, event_made)) = c.in-Ok-hand_in.ensures in
    let number : c.in-Ok.value.proc.number ≡ c.args.entry.process = c.in-Ok.ensures.keeps.0
    ∙ (c.requires.stands.follows.held.each c.args.entry.process c.in-Some.proc
    (sym c.pick.ensures.proc ∙ c.in-Some.is)).number in
    let made : EventMade x c.args.entry.process e c.hand_in.new.self.kernel =
    subst (λ n. EventMade x n e c.hand_in.new.self.kernel) number event_made in
    let newest : c.newest.result ≡ e = c.newest.ensures _ _ event_made.entries in
    let out = c.requires.stands.follows.held.each c.args.entry.process c.in-Some.proc
    (sym c.pick.ensures.proc ∙ c.in-Some.is) in
    let all = told_if_same x c.args.code.now c.args.limits.now c.requires.run c.args.entry c.in-Some.proc out
    c.in-Ok.value c.in-Ok.ensures c.is_same-same.result c.in-Ok-told.value c.hand_in.new.self
    c.in-Ok-told.ensures
    (compared c.is_same-same.result c.newest.result x c.hand_in.new.self c.args.entry e s made newest
    c.is_same-same.ensures) in
    subst (λ o. MatchOption o (CannotCome x c.args.entry)
    (λ w. HoldsAllReady c.hand_in.new.self × ToldMade x c.args.entry w c.hand_in.new.self.kernel))
    (sym c.told_if.ensures) all
