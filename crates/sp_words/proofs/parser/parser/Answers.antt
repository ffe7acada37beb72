use Rattle.std.proofs.Common.{codes, [], Ok}
use Rattle.clap.specs.Words.{App, Shape, with_subcommand}
use Rattle.clap.specs.declared.builder.value_parser.ValueParser.{ValueParser}
use Rattle.sp_words.specs.Parsers.{bare_line, following_shape, gen_parsers, run_parsers, shape_with, worker_parsers}
use Rattle.sp_words.proofs.ParserLemmas.{added, added_with, shaped, shaped_with}
use Rattle.sp_words.proofs.parser.parser.Goals as goal

-- the line with one command more
abbrev more : Shape → App → App
more sub a = with_subcommand a sub

-- the line up to `run`, where q is the parser of `--show`
abbrev to_run : ValueParser → App
to_run q = more (shape_with (codes "run") (run_parsers q)) (more (shape_with (codes "check") []) bare_line)

-- up to `format`
abbrev to_format : ValueParser → App
to_format q = more (shape_with (codes "format") [])
    (more (shape_with (codes "sets") []) (more (shape_with (codes "code") []) (to_run q)))

-- up to `gen`
abbrev to_gen : ValueParser → App
to_gen q = more (shape_with (codes "gen") gen_parsers) (to_format q)

-- up to `witness`
abbrev to_witness : ValueParser → App
to_witness q = more (shape_with (codes "witness") worker_parsers)
    (more (following_shape (codes "replay")) (to_gen q))

-- up to `exec`
abbrev to_exec : ValueParser → App
to_exec q = more (shape_with (codes "exec") worker_parsers) (more (shape_with (codes "build") []) (to_witness q))

pub returns : goal.returns
returns c =
    let check = added (more (shape_with (codes "check") [])) bare_line
    (Ok c.bare_line.result) _ c.with_plain-line.ensures c.bare_line.ensures in
    let run = shaped_with (more (shape_with (codes "check") []) bare_line)
    (λ q. shape_with (codes "run") (run_parsers q)) _ _ _ c.with_command-line.ensures c.run_command.ensures.local
    c.run_command.ensures.shape check in
    let code = added_with (more (shape_with (codes "code") [])) to_run _ _ c.with_plain-line-2.ensures run in
    let sets = added_with (more (shape_with (codes "sets") []))
    (λ q. more (shape_with (codes "code") []) (to_run q)) _ _ c.with_plain-line-3.ensures code in
    let format = added_with (more (shape_with (codes "format") []))
    (λ q. more (shape_with (codes "sets") [])
    (more (shape_with (codes "code") []) (to_run q))) _ _ c.with_plain-line-4.ensures sets in
    let gen = added_with (more (shape_with (codes "gen") gen_parsers)) to_format _ _
    (shaped (shape_with (codes "gen") gen_parsers) _ _ _ c.with_command-line-2.ensures c.gen_command.ensures.local
    c.gen_command.ensures.shape) format in
    let replay = added_with (more (following_shape (codes "replay"))) to_gen _ _
    (shaped (following_shape (codes "replay")) _ _ _ c.with_command-line-3.ensures c.following_command.ensures.local
    c.following_command.ensures.shape) gen in
    let witness = added_with (more (shape_with (codes "witness") worker_parsers))
    (λ q. more (following_shape (codes "replay")) (to_gen q)) _ _
    (shaped (shape_with (codes "witness") worker_parsers) _ _ _ c.with_command-line-4.ensures
    c.worker_command.ensures.local
    c.worker_command.ensures.shape) replay in
    let build = added_with (more (shape_with (codes "build") [])) to_witness _ _ c.with_plain-line-5.ensures witness in
    let exec = added_with (more (shape_with (codes "exec") worker_parsers))
    (λ q. more (shape_with (codes "build") []) (to_witness q)) _ _
    (shaped (shape_with (codes "exec") worker_parsers) _ _ _ c.with_command-line-5.ensures
    c.worker_command-2.ensures.local
    c.worker_command-2.ensures.shape) build in
    let trace = added_with (more (following_shape (codes "trace"))) to_exec _ _
    (shaped (following_shape (codes "trace")) _ _ _ c.with_command-line-6.ensures
    c.following_command-2.ensures.local
    c.following_command-2.ensures.shape) exec in
    added_with (more (following_shape (codes "where"))) (λ q. more (following_shape (codes "trace")) (to_exec q)) _ _
    (shaped (following_shape (codes "where")) _ _ _ c.with_command.ensures c.following_command-3.ensures.local
    c.following_command-3.ensures.shape) trace
