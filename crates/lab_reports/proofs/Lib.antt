mod CallLaws
mod DifferenceLaws
mod EventLaws
mod JoinLaws
mod JsonLaws
mod KeyLaws
mod Rows
