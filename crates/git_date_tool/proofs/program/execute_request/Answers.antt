use Rattle.std.proofs.Common.{inl, inr, refl}
use Rattle.git_date_tool.specs.CommandLine.Command.{request_view}
use Rattle.git_date_tool.specs.Program.{EndsRequest}
use Rattle.git_date_tool.proofs.AskedZones.{starts-not}
use Rattle.git_date_tool.proofs.program.execute_request.Goals as goal

pub returns-in-Ok-query_of : goal.returns-in-Ok-query_of
unfolding EndsRequest
returns-in-Ok-query_of g c = inl (c.in-Ok-query_of.query, c.in-Ok-query_of.ensures, c.run.ensures)

pub returns-in-Err : goal.returns-in-Err
unfolding EndsRequest
returns-in-Err g c =
    inr (
      refl,
      refl,
      refl,
      starts-not (request_view c.args.request) c.zone_text-text.result c.in-Err.why c.no_zone.result
          c.zone_text-text.ensures c.in-Err.ensures c.no_zone.ensures,
    )
