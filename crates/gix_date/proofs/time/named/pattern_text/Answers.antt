use Rattle.std.proofs.Common.{◌≡◌, ◌⊎◌, List, ℕ, option_map, subst, Ok, Err, string_bytes}
use Rattle.jiff.specs.Types.{PlainZoned}
use Rattle.jiff.specs.Words.{plain_zoned}
use Rattle.jiff_core.specs.declared.error.Error.TheVariants.{OutOfMemory}
use Rattle.jiff_strtime.specs.Show.{IsShownAs, IsBadText}
use Rattle.jiff_strtime.specs.Text.{parts_of}
use Rattle.jiff_tz.specs.Zone.{zone_name, IsInfoAt}
use Rattle.gix_date.specs.Printing.Formats.{ArePrinted}
use Rattle.gix_date.proofs.Printing.Printing.{are-printed, shown-by, refused-by}
use Rattle.gix_date.proofs.time.named.pattern_text.Goals.{After-broken_down_time-parts}
use Rattle.gix_date.proofs.time.named.pattern_text.Goals as goal

-- what the printer is given is the moment's
filled : (c : After-broken_down_time-parts) → ArePrinted (plain_zoned c.args.moment.now) (parts_of c.broken_down_time-parts.result)
filled c =
    let z = plain_zoned c.args.moment.now in
    let plain = c.to_plain-plain.ensures in
    let info : IsInfoAt z.time_zone z.timestamp.nanosecond c.to_offset_info-info.result = subst
    (λ (p : PlainZoned). IsInfoAt p.time_zone p.timestamp.nanosecond c.to_offset_info-info.result) plain
    c.to_offset_info-info.ensures in
    let name : option_map (λ s. s.now) c.iana_name-name.result ≡ zone_name z.time_zone = subst
    (λ (p : PlainZoned). option_map (λ s. s.now) c.iana_name-name.result ≡ zone_name p.time_zone) plain c.iana_name-name.ensures in
    are-printed z c.to_offset_info-info.result c.as_str-abbreviation.result.now (option_map (λ s. s.now) c.iana_name-name.result)
    (parts_of c.broken_down_time-parts.result) info c.as_str-abbreviation.ensures name c.broken_down_time-parts.ensures

pub returns-in-Ok : goal.returns-in-Ok
returns-in-Ok c =
    let z = plain_zoned c.args.moment.now in
    let are = filled (goal.at.returns-in-Ok c).After-broken_down_time-parts in
    shown-by c.args.pattern.now z c.new.result c.broken_down_time-parts.result (Ok (string_bytes c.in-Ok.text)) c.new.ensures.locale
    c.new.ensures.strict are
    (subst (λ (p : List ℕ). IsShownAs c.new.result p c.broken_down_time-parts.result (Ok (string_bytes c.in-Ok.text)))
    c.as_bytes.ensures.value c.in-Ok.ensures.ok)

pub returns-in-Err : goal.returns-in-Err
returns-in-Err c =
    let z = plain_zoned c.args.moment.now in
    let are = filled (goal.at.returns-in-Err c).After-broken_down_time-parts in
    refused-by c.args.pattern.now z c.new.result c.broken_down_time-parts.result c.in-Err.error c.printing_fault.result c.new.ensures.locale
    c.new.ensures.strict are c.printing_fault.ensures
    (subst (λ (p : List ℕ). (c.in-Err.error ≡ OutOfMemory) ⊎ IsBadText c.in-Err.error c.new.result p c.broken_down_time-parts.result
    ⊎ IsShownAs c.new.result p c.broken_down_time-parts.result (Err c.in-Err.error)) c.as_bytes.ensures.value c.in-Err.ensures.err)
