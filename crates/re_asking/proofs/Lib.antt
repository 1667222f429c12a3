pub mod Besides
mod CutWords
mod NearLines
