mod KindLaws
mod RowLaws
mod CallbackLaws
mod TraceLaws
