use Rattle.git_date.specs.Formats.Shown.{shown_of}
use Rattle.git_date.proofs.Formats.Short.{usual-cut, usual-passes}
use Rattle.git_date.proofs.format.walks.push_lettered.Goals as goal

pub split_at-requires : goal.split_at-requires
split_at-requires g c =
    usual-cut (shown_of c.args.shown.now) c.args.text.now c.as_bytes-bytes.result.now c.args.out.now.bytes c.push_letter.new.out.bytes
    c.utf8.text
    c.as_bytes-bytes.ensures.value c.if-bytes-lt2.false c.if-not-push_letter.ensures

pub returns-clause-passes : goal.returns-clause-passes
returns-clause-passes g c =
    usual-passes (shown_of c.args.shown.now) c.args.text.now c.as_bytes-bytes.result.now c.split_at.result.1.now c.args.out.now.bytes
    c.push_letter.new.out.bytes
    c.as_bytes-bytes.ensures.value c.if-bytes-lt2.false c.if-bytes-ne37.false c.split_at.ensures.back c.if-not-push_letter.ensures
