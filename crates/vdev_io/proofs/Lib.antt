pub mod CallLemmas
pub mod CrashLaws
pub mod DiskLemmas
pub mod JournalLemmas
pub mod SettleLemmas
pub mod SectorLaws
pub mod StreamLemmas
