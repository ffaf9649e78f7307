-- What the exact reader comes to.
pub mod Places
pub mod PrintedClocks
pub mod PrintedReads
pub mod SaidDates
pub mod FastTexts
pub mod LocalClocks
pub mod FastSeconds
pub mod NoSeconds
pub mod FewDigits
pub mod ZoneOffsets
pub mod RuleYears
pub mod Searches
