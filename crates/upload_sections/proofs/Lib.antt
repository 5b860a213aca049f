pub mod Gathered
pub mod Cutting
pub mod ClassCuts
pub mod EntryLaws
pub mod ClassTotals
pub mod SectionsHeld
pub mod SectionsShow
pub mod SectionSpots
