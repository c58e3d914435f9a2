pub mod ReadThenWritten
pub mod RoundTrip
