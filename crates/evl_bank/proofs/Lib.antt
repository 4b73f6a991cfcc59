pub mod BankLemmas
