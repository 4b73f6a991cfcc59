pub mod BankLemmas
pub mod ConvertLemmas
pub mod OutputLemmas
pub mod StreamLemmas
pub mod TextLemmas
pub mod WordLemmas
