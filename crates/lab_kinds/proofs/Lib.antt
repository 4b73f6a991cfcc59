mod BankLaws
mod BehindLaws
mod CallerLaws
mod FoundLaws
mod RowLaws
