use Rattle.std.proofs.Common.{arith}
use Rattle.sp_tree.proofs.TokenOrder.{lexeme_length}
use Rattle.sp_scan.proofs.Breaches.{long_name, refused_word, fine_name}
use Rattle.sp_scan.proofs.rules.name_breach.Goals as goal

pub overflow_sub-bytes : goal.overflow_sub-bytes
overflow_sub-bytes c = omega (arith, lexeme_length c.requires.longest.spelled)

pub slice_bounds-is_refused-count : goal.slice_bounds-is_refused-count
slice_bounds-is_refused-count c = omega (arith, lexeme_length c.requires.longest.spelled)

pub returns-then-bytes-after-gt-MAX_NAME : goal.returns-then-bytes-after-gt-MAX_NAME
returns-then-bytes-after-gt-MAX_NAME c = long_name c.requires.closed c.requires.longest
    c.if-bytes-after-gt-MAX_NAME.true

pub returns-then-is_refused : goal.returns-then-is_refused
returns-then-is_refused c = refused_word c.requires.closed c.requires.longest
    (omega (arith, c.if-bytes-after-gt-MAX_NAME.false)) c.if-is_refused.ensures.0 c.if-is_refused.ensures.1

pub returns : goal.returns
returns c = fine_name c.requires.closed c.requires.longest (omega (arith, c.if-bytes-after-gt-MAX_NAME.false))
    c.if-is_refused.ensures
