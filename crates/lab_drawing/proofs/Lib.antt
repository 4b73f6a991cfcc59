mod CallLaws
mod KeyLaws
mod LaneLaws
mod PictureLaws
mod ShapeLaws
mod ShownLaws
mod StandingLaws
mod TextLaws
mod TickLaws
pub mod PageLaws
pub mod WorkedRows
