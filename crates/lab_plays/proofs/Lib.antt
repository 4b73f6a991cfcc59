mod NoteLemmas
mod StateLemmas
pub mod CheckLemmas
pub mod CompareLemmas
pub mod ExpectLemmas
pub mod FolderLemmas
pub mod PlayLemmas
