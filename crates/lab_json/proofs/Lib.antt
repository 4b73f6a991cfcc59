mod NumberLaws
mod RunLaws
mod TextLaws
