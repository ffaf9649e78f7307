use lib.Utf8.{encode}
use Rattle.git_date.specs.Formats.Short.{date_and_clock_text}
use Rattle.git_date.proofs.Formats.Usual.{all-appended}
use Rattle.git_date.proofs.format.usual.push_date_and_clock.Goals as goal

pub returns : goal.returns
unfolding date_and_clock_text encode
returns g c =
    all-appended _ _ _ _ _ _ _ _ _ _ _ _ _ c.push_weekday.ensures.bytes c.push_month.ensures.bytes c.push_spaced_day.ensures.bytes
    c.push.ensures.bytes c.push_clock.ensures.bytes c.push-2.ensures.bytes c.push_year.ensures.bytes
