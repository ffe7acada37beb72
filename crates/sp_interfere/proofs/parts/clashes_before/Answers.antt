use Rattle.std.proofs.Common.{◌≡◌, true, false, map, sym, subst}
use Rattle.sp_tree.specs.CheckedOf.{statement_of, statements}
use Rattle.sp_varsets.specs.Members.{has}
use Rattle.sp_interfere.specs.Rules.{numbers_of}
use Rattle.sp_interfere.proofs.Clashes.{hit_target, hit_seen, no_hit}
use Rattle.sp_interfere.proofs.parts.clashes_before.Goals as goal

pub returns-then-meets : goal.returns-then-meets
returns-then-meets c =
    let (x, in_window, in_union, is_there) = c.meets.ensures.0 c.if-meets.true in
    sym (hit_target c.args.s.now (numbers_of (statements (map statement_of c.args.earlier.now))) c.args.n
    c.args.targets.now c.args.used.now c.requires.targets c.requires.used x in_window in_union
    (subst (λ a. has a x ≡ true) c.targets.ensures is_there))

pub returns-then-meets-2 : goal.returns-then-meets-2
returns-then-meets-2 c =
    let (x, in_window, in_union, is_there) = c.meets-2.ensures.0 c.if-meets-2.true in
    sym (hit_seen c.args.s.now (numbers_of (statements (map statement_of c.args.earlier.now))) c.args.n
    c.args.targets.now c.args.used.now c.requires.targets c.requires.used x in_window in_union
    (subst (λ a. has a x ≡ true) c.expressions.ensures is_there))

pub returns : goal.returns
returns c =
    no_hit c.args.s.now (numbers_of (statements (map statement_of c.args.earlier.now))) c.args.n c.args.targets.now
    c.args.used.now c.requires.targets c.requires.used
    (c.is_wide.ensures c.if-is_wide.false)
    (λ (x, in_window, in_union, is_there).
    let yes = c.meets.ensures.1 (
      x,
      in_window,
      in_union,
      subst (λ a. has a x ≡ true) (sym c.targets.ensures) is_there,
    ) in cc (yes, c.if-meets.false))
    (λ (x, in_window, in_union, is_there).
    let yes = c.meets-2.ensures.1 (
      x,
      in_window,
      in_union,
      subst (λ a. has a x ≡ true) (sym c.expressions.ensures) is_there,
    ) in cc (yes, c.if-meets-2.false))
