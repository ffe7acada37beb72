-- Some of this belongs to what the program promises (docs/promise.txt).
-- The order of the names of processes and channels, and its laws. The comparison of names promises it, and the
-- contracts of the kernel's ends and of the reports are sorted by it. It goes by pairs, so that it needs no printed
-- text.
use Rattle.std.specs.Prelude.{◌≡◌, T, true}
use Rattle.std.proofs.Common.{refl, sym, subst}
use Rattle.std.specs.declared.cmp.Ordering.TheVariants.{Less, Equal, Greater}
use Rattle.std.specs.Ordering.{nat_cmp, on, then_cmp, ordering_then, ordering_reverse, is_eq}
use Rattle.std.specs.Cmp.{IsTotalOrder, then_total, on_total, nat_cmp_total, tied_itself}
use Rattle.std.specs.FinMap.{IsAntisymmetric, nat_cmp-IsAntisymmetric, slice_cmp-IsAntisymmetric}
use Rattle.std.specs.declared.cmp.Ordering.{Ordering}
use Rattle.std.specs.Cmp.Lexicographic.{slice_cmp, lists_total}
use Rattle.sp_base.specs.declared.name.Pair.{Pair}
use Rattle.sp_base.specs.declared.name.ProcName.{ProcName}
use Rattle.sp_base.specs.declared.name.ChanName.{ChanName}

-- by the fork, and then by the child
abbrev pub pair_cmp : Pair → Pair → Ordering
pair_cmp = then_cmp (on (λ p. p.fork) nat_cmp) (on (λ p. p.child) nat_cmp)

-- by pairs, a prefix first
abbrev pub name_cmp : ProcName → ProcName → Ordering
name_cmp = on (λ n. n.pairs) (slice_cmp pair_cmp)

-- both are total, and only equal names tie
pub pair_total : IsTotalOrder pair_cmp
pair_total = then_total (on_total (λ p. p.fork) nat_cmp_total) (on_total (λ p. p.child) nat_cmp_total)

-- so is the order of processes
pub name_total : IsTotalOrder name_cmp
name_total = on_total (λ n. n.pairs) (lists_total pair_total)

abbrev pub IsTie : Ordering → Type 0
IsTie Less = ⊥
IsTie Equal = Unit {0}
IsTie Greater = ⊥

-- where both tie
pub both_tie : (r s : Ordering) → ordering_then r s ≡ Equal → (r ≡ Equal) × (s ≡ Equal)
both_tie Less s e = absurd (subst IsTie (sym e) tt)
both_tie Equal s e = (refl, e)
both_tie Greater s e = absurd (subst IsTie (sym e) tt)

-- names that tie are the same
pub same_pair : IsAntisymmetric pair_cmp
same_pair x y e =
    let b = both_tie (nat_cmp x.fork y.fork) (nat_cmp x.child y.child) e in
    λ i. record {
      fork = nat_cmp-IsAntisymmetric x.fork y.fork b.0 i;
      child = nat_cmp-IsAntisymmetric x.child y.child b.1 i;
    }

pub same_name : IsAntisymmetric name_cmp
same_name x y e = λ i. record { pairs = slice_cmp-IsAntisymmetric same_pair x.pairs y.pairs e i }

-- a test for a tie is one
pub tie_of : (r : Ordering) → is_eq r ≡ true → r ≡ Equal
tie_of Less e = absurd (subst T (sym e) tt)
tie_of Equal e = refl
tie_of Greater e = absurd (subst T (sym e) tt)

-- channels by their owners, and then by number
abbrev pub channel_cmp : ChanName → ChanName → Ordering
channel_cmp = then_cmp (on (λ c. c.owner) name_cmp) (on (λ c. c.nth) nat_cmp)

-- total as well
pub channel_total : IsTotalOrder channel_cmp
channel_total = then_total (on_total (λ c. c.owner) name_total) (on_total (λ c. c.nth) nat_cmp_total)

-- channels that tie are the same
pub same_channel : IsAntisymmetric channel_cmp
same_channel x y e =
    let b = both_tie (name_cmp x.owner y.owner) (nat_cmp x.nth y.nth) e in
    λ i. record { owner = same_name x.owner y.owner b.0 i; nth = nat_cmp-IsAntisymmetric x.nth y.nth b.1 i }

-- the laws of an order of names: each name ties with itself and with no other one, of two names one comes first,
-- and what comes first comes before all that the other one comes before
pub record IsOrder {N : Type 0} (cmp : N → N → Ordering) : Type 0 where
  pub reflexive : (x : N) → cmp x x ≡ Equal
  pub antisymmetric : (x y : N) → cmp x y ≡ Equal → x ≡ y
  pub transitive : (x y z : N) → cmp x y ≡ Less → cmp y z ≡ Less → cmp x z ≡ Less
  pub total : (x y : N) → cmp x y ≡ ordering_reverse (cmp y x)

order_of : {N : Type 0} {cmp : N → N → Ordering} → IsTotalOrder cmp → IsAntisymmetric cmp → IsOrder cmp
order_of o a = record { reflexive = tied_itself o; antisymmetric = a; transitive = o.trans; total = o.antisymm }

-- the laws of the order of processes
pub names_ordered : IsOrder name_cmp
names_ordered = order_of name_total same_name

-- the laws of the order of channels
pub channels_ordered : IsOrder channel_cmp
channels_ordered = order_of channel_total same_channel
