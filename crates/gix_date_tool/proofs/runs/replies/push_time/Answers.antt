use Rattle.gix_date_tool.proofs.Sent.{line_text}
use Rattle.gix_date_tool.proofs.runs.replies.push_time.Goals as goal

pub from_utf8_unchecked-requires : goal.from_utf8_unchecked-requires
from_utf8_unchecked-requires g c =
    line_text c.copy_from_slice.new.self c.in-Some.text c.copy_from_slice.ensures.after c.in-Some.ensures.ascii
