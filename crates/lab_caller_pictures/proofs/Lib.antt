mod JoinLaws
mod RunLaws
