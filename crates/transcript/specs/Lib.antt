pub mod Transcripts
