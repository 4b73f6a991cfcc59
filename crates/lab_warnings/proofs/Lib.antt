mod LineLaws
mod RunLaws
